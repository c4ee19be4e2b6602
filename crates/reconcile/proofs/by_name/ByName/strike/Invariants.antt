use Rattle.std.proofs.Common.{◌≡◌, ℕ, List, cond}
use Rattle.std.specs.Prelude.{None, is_some}
use Rattle.std.specs.FinMap as fin
use Rattle.reconcile.specs.Keys.{name_cmp}
use Rattle.reconcile.specs.Named.{named}
use Rattle.reconcile.proofs.by_name.ByName.strike.Given as goal

-- without the names that are left, the map is the old one without all
abbrev pub invariant-loop-name : goal.invariant-loop-name
invariant-loop-name g l =
    (q : List ℕ) → cond (is_some (fin.find name_cmp q (named l.name-iterator))) None (fin.get l.self q) ≡ cond (is_some (fin.get l.names q)) None (fin.get l.fn.self q)
