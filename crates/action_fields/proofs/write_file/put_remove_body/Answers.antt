use Rattle.action_fields.specs.Canonical.{remove_fields}
use Rattle.std.proofs.Common.{true}
use Rattle.action_fields.proofs.Tokens.{object_puts}
use Rattle.action_fields.proofs.write_file.put_remove_body.Goals as goal

pub returns-clause-puts : goal.returns-clause-puts
returns-clause-puts c =
    object_puts c.end_object.result c.args.out.now c.begin_object.new.self c.put_remove.new.out c.end_object.new.self (remove_fields true c.args.remove.now)
    c.in_ok-begin_object.ensures.ok c.begin_object.ensures.room.0 c.in_ok-put_remove.ensures.puts.ok c.put_remove.ensures.puts.before c.end_object.ensures
