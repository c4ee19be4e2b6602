use Rattle.reconcile.specs.Named.{named}
use Rattle.reconcile.proofs.Laying.{StrikesRest}
use Rattle.reconcile.proofs.by_file.strike_marked.Given as goal

-- without the ids that are left, the map is the old one without all
abbrev pub invariant-loop-path : goal.invariant-loop-path
invariant-loop-path g l = StrikesRest l.fn.marked l.others (named l.path-iterator) l.marked
