use Rattle.std.proofs.Common.{◌++◌, map}
use Rattle.action_types.specs.declared.actions.Action.TheVariants as action
use Rattle.reconcile.specs.Standing.{protocol_in, meta_in, txns_in, domains_in, tombstones_in, files_in}
use Rattle.checkpoint_v2.specs.Canonical.{protocol_action, meta_action}
use Rattle.checkpoint_v2.proofs.Pushing.{pushes_more}
use Rattle.checkpoint_v2.proofs.writing.push_table.Goals as goal

pub returns : goal.returns
returns c =
    let protocol = protocol_action (protocol_in c.args.state.now) in
    let meta = meta_action (meta_in c.args.state.now) in
    let entries = map action.Txn (txns_in c.args.state.now) ++ (map action.Domain (domains_in c.args.state.now)
    ++ (map action.Remove (tombstones_in c.args.state.now) ++ map action.Add (files_in c.args.state.now))) in
    pushes_more c.push_entries.result c.in_ok-push_protocol.field-0 c.args.text.now.items c.push_protocol.new.text.items c.push_entries.new.text.items protocol (meta ++ entries)
    c.in_ok-push_protocol.ensures
    (pushes_more c.push_entries.result c.in_ok-push_meta.field-0 c.push_protocol.new.text.items c.push_meta.new.text.items c.push_entries.new.text.items meta entries
    c.in_ok-push_meta.ensures c.push_entries.ensures)
