use Rattle.std.proofs.Common.{Some, codes, ap, ◌++◌, append-nil}
use Rattle.action_fields.specs.Tokens.{field_tokens, fields_tokens}
use Rattle.action_fields.proofs.Tokens.{puts_then}
use Rattle.session_lines.specs.Replies.{base_data, committed_front, said}
use Rattle.session_lines.proofs.text.put_committed_front.Goals as goal

pub returns : goal.returns
returns c =
    puts_then c.put_text.result c.args.out.now c.put_base.new.out c.put_text.new.out
    (field_tokens (codes "base") (Some (base_data c.args.base))) (field_tokens (codes "reply") (said (codes "committed"))) (fields_tokens (committed_front c.args.base))
    c.in_ok-put_base.ensures.ok c.in_ok-put_base.ensures.before c.put_text.ensures
    (ap (λ l. field_tokens (codes "base") (Some (base_data c.args.base)) ++ l) (append-nil (field_tokens (codes "reply") (said (codes "committed")))))
