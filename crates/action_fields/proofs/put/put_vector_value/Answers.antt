use Rattle.action_fields.specs.Canonical.{vector_fields}
use Rattle.action_fields.proofs.Tokens.{object_puts}
use Rattle.action_fields.proofs.put.put_vector_value.Goals as goal

pub returns-clause-puts : goal.returns-clause-puts
returns-clause-puts c =
    object_puts c.end_object.result c.args.out.now c.begin_object.new.self c.put_vector_fields.new.out c.end_object.new.self (vector_fields c.args.vector.now)
    c.in_ok-begin_object.ensures.ok c.begin_object.ensures.room.0 c.in_ok-put_vector_fields.ensures.puts.ok c.put_vector_fields.ensures.puts.before c.end_object.ensures
