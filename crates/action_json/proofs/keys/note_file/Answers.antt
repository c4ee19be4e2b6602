use Rattle.action_types.specs.Files.{file}
use Rattle.action_json.proofs.Files.{noted}
use Rattle.action_json.proofs.keys.note_file.Goals as goal

pub returns-then-branch-clause-noted : goal.returns-then-branch-clause-noted
returns-then-branch-clause-noted c =
    noted c.in_ok-copy.field-0 c.in_ok-id.id (file c.args.path.now c.args.vector.now) c.args.files.now c.insert.new.self c.in_ok-copy.ensures c.in_ok-id.ensures c.in_ok-insert.ensures.updates

pub returns-in_ok-copy-2-clause-noted : goal.returns-in_ok-copy-2-clause-noted
returns-in_ok-copy-2-clause-noted c =
    noted c.in_ok-copy.field-0 c.in_ok-id.id (file c.args.path.now c.args.vector.now) c.args.files.now c.insert.new.self c.in_ok-copy.ensures c.in_ok-id.ensures c.in_ok-insert.ensures.updates
