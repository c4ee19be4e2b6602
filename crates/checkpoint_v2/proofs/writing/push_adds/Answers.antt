use Rattle.action_types.specs.declared.actions.Action.TheVariants as action
use Rattle.reconcile.specs.Standing.{files_in}
use Rattle.checkpoint_v2.proofs.Pushing.{makes_step, makes_end}
use Rattle.checkpoint_v2.proofs.writing.push_adds.Goals as goal

pub loop-add-preserved : goal.loop-add-preserved
loop-add-preserved c =
    (tt, tt, makes_step action.Add (files_in c.args.state.now) c.args.text.now.items c.in_ok-push_add.field-0 c.loop-add.text.items c.push_add.new.text.items c.in-Some.add.now c.loop-add.add-iterator c.next.new.self c.in-Some.ensures.steps c.in_ok-push_add.ensures c.loop-add.invariant.2)

pub returns : goal.returns
returns c = makes_end action.Add (files_in c.args.state.now) c.args.text.now.items tt c.loop-add.text.items c.loop-add.add-iterator c.in-None.ensures.steps.0 c.loop-add.invariant.2
