use Rattle.std.proofs.Common.{◌≡◌}
use Rattle.std.specs.Slice.Iter.{iter_rest}
use Rattle.reconcile.specs.StepsBack.{all_before}
use Rattle.reconcile.proofs.newest.NewestFirst.with_actions.Given as goal

-- what the actions that are left make of what is decided is what all make
abbrev pub invariant-loop-action : goal.invariant-loop-action
invariant-loop-action l = all_before l.newest (iter_rest l.action-iterator.iter) ≡ all_before l.fn.self l.actions
