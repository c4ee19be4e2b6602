use Rattle.std.proofs.Common.{◌≡◌, length}
use Rattle.reconcile.specs.Walking.{left}
use Rattle.reconcile.proofs.merge.FilesLeft.next.Given as goal

-- what is left stays the same until a file is given
abbrev pub invariant-loop-value : goal.invariant-loop-value
invariant-loop-value g l = left l.self ≡ left l.fn.self

abbrev pub decreases-loop-value : goal.decreases-loop-value
decreases-loop-value g l = length l.self.marked
