use Rattle.std.proofs.Common.{◌++◌, map}
use Rattle.action_types.specs.declared.actions.Action.TheVariants as action
use Rattle.reconcile.specs.Standing.{txns_in, domains_in, tombstones_in, files_in}
use Rattle.checkpoint_v2.proofs.Pushing.{pushes_more}
use Rattle.checkpoint_v2.proofs.writing.push_entries.Goals as goal

pub returns : goal.returns
returns c =
    let txns = map action.Txn (txns_in c.args.state.now) in
    let domains = map action.Domain (domains_in c.args.state.now) in
    let files = map action.Remove (tombstones_in c.args.state.now) ++ map action.Add (files_in c.args.state.now) in
    pushes_more c.push_files.result c.in_ok-push_txns.field-0 c.args.text.now.items c.push_txns.new.text.items c.push_files.new.text.items txns (domains ++ files)
    c.in_ok-push_txns.ensures
    (pushes_more c.push_files.result c.in_ok-push_domains.field-0 c.push_txns.new.text.items c.push_domains.new.text.items c.push_files.new.text.items domains files
    c.in_ok-push_domains.ensures c.push_files.ensures)
