use Rattle.std.proofs.Common.{◌≡◌, vec_len}
use Rattle.reconcile.specs.StepsBack.{all_before}
use Rattle.reconcile.proofs.newest.NewestFirst.with_owned_actions.Given as goal

abbrev pub invariant-loop-action : goal.invariant-loop-action
invariant-loop-action l = all_before l.newest l.left.items ≡ all_before l.fn.self l.fn.actions.items

abbrev pub decreases-loop-action : goal.decreases-loop-action
decreases-loop-action l = vec_len l.left
