use Rattle.std.proofs.Common.{◌≡◌, ℕ, List}
use Rattle.std.specs.FinMap as fin
use Rattle.reconcile.specs.Keys.{name_cmp}
use Rattle.reconcile.specs.Named.{named}
use Rattle.reconcile.specs.Replay.{or_else}
use Rattle.reconcile.proofs.by_name.ByName.copy.Given as goal

-- the entries that are left and those of the copy are the map's
abbrev pub invariant-loop-name : goal.invariant-loop-name
invariant-loop-name g l = (q : List ℕ) → or_else (fin.find name_cmp q (named l.name-iterator.iter)) (fin.get l.copy q) ≡ fin.get l.self q
