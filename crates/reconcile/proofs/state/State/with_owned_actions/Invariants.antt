use Rattle.std.proofs.Common.{◌≡◌, fold}
use Rattle.std.specs.Vec.Iter.{into_iter_items}
use Rattle.reconcile.specs.Steps.{after}
use Rattle.reconcile.proofs.state.State.with_owned_actions.Given as goal

abbrev pub invariant-loop-action : goal.invariant-loop-action
invariant-loop-action l = fold after l.state (into_iter_items l.action-iterator) ≡ fold after l.fn.self l.fn.actions.items
