use Rattle.action_types.specs.declared.actions.Action.TheVariants as action
use Rattle.action_fields.specs.Canonical.{action_data, canonical_line}
use Rattle.action_fields.proofs.Tokens.{printed, printed_utf8}
use Rattle.action_fields.proofs.write_file.push_remove_line.Goals as goal

pub returns-clause-ok : goal.returns-clause-ok
unfolding canonical_line
returns-clause-ok c =
    rw (c.finished-bytes.ensures.same)
    (rw (← c.replace.ensures.value, ← c.new-writer.ensures.before) (printed c.put_remove_line-done.result c.new-writer.result c.put_remove_line-done.new.out (action_data (action.Remove c.args.remove.now)) c.finished-bytes.result.0.items c.new-writer.ensures.tokens c.put_remove_line-done.ensures.puts c.finished-bytes.ensures.ok))

pub returns-clause-utf8 : goal.returns-clause-utf8
unfolding canonical_line
returns-clause-utf8 c =
    rw (c.finished-bytes.ensures.same)
    (printed_utf8 c.put_remove_line-done.result c.new-writer.result c.put_remove_line-done.new.out (action_data (action.Remove c.args.remove.now)) c.new-writer.ensures.tokens c.put_remove_line-done.ensures.puts c.finished-bytes.ensures.utf8)
