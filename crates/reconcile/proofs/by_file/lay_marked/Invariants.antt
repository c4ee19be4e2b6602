use Rattle.std.specs.FinMap as fin
use Rattle.reconcile.proofs.Laying.{LaysRest}
use Rattle.reconcile.proofs.by_file.lay_marked.Given as goal

-- the values that are left and those of the map are the newer ones over the old ones
abbrev pub invariant-loop-path : goal.invariant-loop-path
invariant-loop-path g l = LaysRest l.fn.marked l.fn.newer l.left l.marked

abbrev pub decreases-loop-path : goal.decreases-loop-path
decreases-loop-path g l = fin.len l.left
