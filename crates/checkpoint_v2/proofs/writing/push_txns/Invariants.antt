use Rattle.action_types.specs.declared.actions.Action.TheVariants as action
use Rattle.reconcile.specs.Standing.{txns_in}
use Rattle.checkpoint_v2.proofs.Pushing.{Makes}
use Rattle.checkpoint_v2.proofs.writing.push_txns.Given as goal

abbrev pub invariant-loop-txn : goal.invariant-loop-txn
invariant-loop-txn l =
    (goal.iterator-loop-txn).can_next l.txn-iterator ×
    (goal.iterator-loop-txn).is_finite l.txn-iterator ×
    Makes action.Txn (txns_in l.state) l.initial.text.items l.text.items l.txn-iterator
