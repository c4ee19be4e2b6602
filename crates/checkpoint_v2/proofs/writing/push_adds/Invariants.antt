use Rattle.action_types.specs.declared.actions.Action.TheVariants as action
use Rattle.reconcile.specs.Standing.{files_in}
use Rattle.checkpoint_v2.proofs.Pushing.{Makes}
use Rattle.checkpoint_v2.proofs.writing.push_adds.Given as goal

abbrev pub invariant-loop-add : goal.invariant-loop-add
invariant-loop-add l =
    (goal.iterator-loop-add).can_next l.add-iterator ×
    (goal.iterator-loop-add).is_finite l.add-iterator ×
    Makes action.Add (files_in l.state) l.initial.text.items l.text.items l.add-iterator
