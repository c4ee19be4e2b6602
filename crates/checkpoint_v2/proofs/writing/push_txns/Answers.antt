use Rattle.action_types.specs.declared.actions.Action.TheVariants as action
use Rattle.reconcile.specs.Standing.{txns_in}
use Rattle.checkpoint_v2.proofs.Pushing.{makes_step, makes_end}
use Rattle.checkpoint_v2.proofs.writing.push_txns.Goals as goal

pub loop-txn-preserved : goal.loop-txn-preserved
loop-txn-preserved c =
    (tt, tt, makes_step action.Txn (txns_in c.args.state.now) c.args.text.now.items c.in_ok-push_txn.field-0 c.loop-txn.text.items c.push_txn.new.text.items c.in-Some.txn.now c.loop-txn.txn-iterator c.next.new.self c.in-Some.ensures.steps c.in_ok-push_txn.ensures c.loop-txn.invariant.2)

pub returns : goal.returns
returns c = makes_end action.Txn (txns_in c.args.state.now) c.args.text.now.items tt c.loop-txn.text.items c.loop-txn.txn-iterator c.in-None.ensures.steps.0 c.loop-txn.invariant.2
