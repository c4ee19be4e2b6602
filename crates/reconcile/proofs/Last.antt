-- The last mention, over lists put together.
use Rattle.std.proofs.Common.{◌≡◌, Bool, true, false, cond, List, [], ◌∷◌, ◌++◌, refl, ap, sym, ◌∙◌}
use Rattle.std.specs.Prelude.{Option, Some, None}
use Rattle.action_types.specs.declared.actions.Action.{Action}
use Rattle.reconcile.specs.Replay.{Log, or_else, last_said, last_commit}

pub or_else-none : {B : Type 0} (a : Option B) → or_else a None ≡ a
or_else-none None = refl
or_else-none (Some a) = refl

pub or_else_assoc : {B : Type 0} (a b c : Option B) → or_else (or_else a b) c ≡ or_else a (or_else b c)
or_else_assoc None b c = refl
or_else_assoc (Some a) b c = refl

-- a new answer, where it is of the key asked, and else the old one
pub newer : {B : Type 0} (here : Bool) (new : B) (old : Option B) → cond here (Some new) old ≡ or_else (cond here (Some new) None) old
newer true new old = refl
newer false new old = refl

pub last_said-append : {A B : Type 0} (says : A → Option B) (xs ys : List A) → last_said says (xs ++ ys) ≡ or_else (last_said says ys) (last_said says xs)
last_said-append says [] ys = sym (or_else-none (last_said says ys))
last_said-append says (x ∷ xs) ys =
    ap (λ o. or_else o (says x)) (last_said-append says xs ys) ∙ or_else_assoc (last_said says ys) (last_said says xs) (says x)

pub last_commit-push : (log : Log) (commit : List Action) → last_commit (log ++ commit ∷ []) ≡ Some commit
last_commit-push log commit = last_said-append Some log (commit ∷ [])
