use Rattle.action_types.specs.declared.actions.Action.TheVariants as action
use Rattle.reconcile.specs.Standing.{tombstones_in}
use Rattle.checkpoint_v2.proofs.Pushing.{Makes}
use Rattle.checkpoint_v2.proofs.writing.push_removes.Given as goal

abbrev pub invariant-loop-remove : goal.invariant-loop-remove
invariant-loop-remove l =
    (goal.iterator-loop-remove).can_next l.remove-iterator ×
    (goal.iterator-loop-remove).is_finite l.remove-iterator ×
    Makes action.Remove (tombstones_in l.state) l.initial.text.items l.text.items l.remove-iterator
