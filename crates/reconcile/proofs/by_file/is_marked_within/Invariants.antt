use Rattle.std.specs.FinMap as fin
use Rattle.reconcile.specs.Named.{named}
use Rattle.reconcile.specs.Within.{IsAmong, IsMarkedWithin}
use Rattle.reconcile.proofs.Within.{Left}
use Rattle.reconcile.proofs.by_file.is_marked_within.Given as goal

-- the paths that are left decide whether the other map has all
abbrev pub invariant-loop-path : goal.invariant-loop-path
invariant-loop-path g l = Left (IsMarkedWithin l.marked l.others) (λ q x. IsAmong x (fin.get l.others q)) (named l.path-iterator)
