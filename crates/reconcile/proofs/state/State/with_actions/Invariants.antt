use Rattle.std.proofs.Common.{◌≡◌, drop, fold}
use Rattle.reconcile.specs.Steps.{after}
use Rattle.reconcile.proofs.state.State.with_actions.Given as goal

abbrev pub invariant-loop-action : goal.invariant-loop-action
invariant-loop-action l = fold after l.state (drop l.action-index l.actions) ≡ fold after l.fn.self l.actions
