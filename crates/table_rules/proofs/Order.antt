-- The first broken rule of several, and what a check tells of it.
use Rattle.std.proofs.Common.{◌≡◌, Option, Some, None, Result, Err, refl, sym, ap, subst}
use Rattle.reconcile.specs.Replay.{or_else}
use Rattle.table_rules.specs.Broken.{Tells, TellsOf, told}
use Rattle.table_rules.specs.declared.broken.Broken.{Broken}

pub or_else-assoc : {B : Type 0} (a b c : Option B) → or_else (or_else a b) c ≡ or_else a (or_else b c)
or_else-assoc None b c = refl
or_else-assoc (Some x) b c = refl

first_told : (t a b : Option Broken) → TellsOf t a → TellsOf t (or_else a b)
first_told None a b h = tt
first_told (Some e) a b h = ap (λ (o : Option Broken). or_else o b) h

-- an error of the first check is the first broken rule
pub Tells-first : (e : Broken) (a b : Option Broken) → Tells (Err e) a → Tells (Err e) (or_else a b)
Tells-first e a b h = first_told (told e) a b h

-- where the first check passes, the rest decides
pub Tells-rest : (r : Result (Unit {0}) Broken) (a b : Option Broken) → a ≡ None → Tells r b → Tells r (or_else a b)
Tells-rest r a b none h = let P : Option Broken → Type 0 = λ o. Tells r (or_else o b) in subst P (sym none) h

pub ruleset order = (Tells-first, Tells-rest)
