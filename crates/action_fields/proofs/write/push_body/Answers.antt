use Rattle.action_fields.specs.Canonical.{body_data, canonical_body}
use Rattle.action_fields.proofs.Tokens.{printed}
use Rattle.action_fields.proofs.write.push_body.Goals as goal

pub returns-clause-ok : goal.returns-clause-ok
unfolding canonical_body
returns-clause-ok c =
    rw (c.finished-bytes.ensures.same)
    (rw (← c.replace.ensures.value, ← c.new-writer.ensures.before) (printed c.put_body-done.result c.new-writer.result c.put_body-done.new.out (body_data c.args.with_change c.args.action.now) c.finished-bytes.result.0.items c.new-writer.ensures.tokens c.put_body-done.ensures.puts c.finished-bytes.ensures.ok))
