use Rattle.action_types.specs.declared.actions.Action.TheVariants as action
use Rattle.reconcile.specs.Standing.{tombstones_in}
use Rattle.checkpoint_v2.proofs.Pushing.{makes_step, makes_end}
use Rattle.checkpoint_v2.proofs.writing.push_removes.Goals as goal

pub loop-remove-preserved : goal.loop-remove-preserved
loop-remove-preserved c =
    (tt, tt, makes_step action.Remove (tombstones_in c.args.state.now) c.args.text.now.items c.in_ok-push_remove.field-0 c.loop-remove.text.items c.push_remove.new.text.items c.in-Some.remove.now c.loop-remove.remove-iterator c.next.new.self c.in-Some.ensures.steps c.in_ok-push_remove.ensures c.loop-remove.invariant.2)

pub returns : goal.returns
returns c = makes_end action.Remove (tombstones_in c.args.state.now) c.args.text.now.items tt c.loop-remove.text.items c.loop-remove.remove-iterator c.in-None.ensures.steps.0 c.loop-remove.invariant.2
