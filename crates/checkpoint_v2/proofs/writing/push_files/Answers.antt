use Rattle.std.proofs.Common.{map}
use Rattle.action_types.specs.declared.actions.Action.TheVariants as action
use Rattle.reconcile.specs.Standing.{tombstones_in, files_in}
use Rattle.checkpoint_v2.proofs.Pushing.{pushes_more}
use Rattle.checkpoint_v2.proofs.writing.push_files.Goals as goal

pub returns : goal.returns
returns c =
    pushes_more c.push_adds.result c.in_ok-push_removes.field-0 c.args.text.now.items c.push_removes.new.text.items c.push_adds.new.text.items
    (map action.Remove (tombstones_in c.args.state.now)) (map action.Add (files_in c.args.state.now)) c.in_ok-push_removes.ensures c.push_adds.ensures
