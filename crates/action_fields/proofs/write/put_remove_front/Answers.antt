use Rattle.std.proofs.Common.{append-nil, append_assoc, ◌∙◌}
use Rattle.action_fields.proofs.write.put_remove_front.Goals as goal

pub returns-clause-puts : goal.returns-clause-puts
returns-clause-puts c = record {
  ok = rw (c.in_ok-put_optional_vector.ensures.puts.ok, c.in_ok-put_optional_integer.ensures.puts.ok, c.in_ok-put_optional_flag.ensures.ok, c.written_flag.ensures) (simp (append_assoc, append-nil));
  before = c.put_optional_vector.ensures.puts.before ∙ c.put_optional_integer.ensures.puts.before ∙ c.put_optional_flag.ensures.before;
}
