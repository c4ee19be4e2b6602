use Rattle.std.proofs.Common.{append-nil}
use Rattle.action_fields.proofs.Tokens.{puts_then}
use Rattle.action_fields.proofs.write.put_protocol_rest.Goals as goal

pub returns : goal.returns
returns c =
    puts_then c.put_optional_names-2.result c.args.out.now c.put_optional_names.new.out c.put_optional_names-2.new.out _ _ _ c.in_ok-put_optional_names.ensures.ok c.put_optional_names.ensures.before
    c.put_optional_names-2.ensures (simp append-nil)
