use Rattle.std.proofs.Common.{◌++◌, Ok, ap, ◌∙◌}
use Rattle.serde_json.specs.Written.{compact_text}
use Rattle.action_fields.proofs.Tokens.{printed}
use Rattle.session_lines.specs.Replies.{reply_data}
use Rattle.session_lines.proofs.writing.short_text.Goals as goal

pub returns : goal.returns
returns c = λ short.
    printed (Ok c.in_ok-put_reply.field-0) c.new-out.result c.put_reply.new.out (reply_data c.args.reply.now) c.into_inner.result.items c.new-out.ensures.tokens
    (c.in_ok-put_reply.ensures short) c.into_inner.ensures.items
    ∙ ap (λ l. l ++ compact_text (reply_data c.args.reply.now)) (c.new-out.ensures.before ∙ c.new.ensures.items)
