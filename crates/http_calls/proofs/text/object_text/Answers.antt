use Rattle.std.proofs.Common.{◌++◌, Ok, ap, ◌∙◌}
use Rattle.serde_json.specs.Written.{compact_text}
use Rattle.action_fields.proofs.Tokens.{printed}
use Rattle.http_calls.specs.Answers.{answer_data}
use Rattle.http_calls.proofs.text.object_text.Goals as goal

pub returns : goal.returns
returns c =
    printed (Ok c.in_ok-put_answer.field-0) c.new-out.result c.put_answer.new.out (answer_data c.args.answer.now) c.into_inner.result.items c.new-out.ensures.tokens
    c.in_ok-put_answer.ensures c.into_inner.ensures.items
    ∙ ap (λ l. l ++ compact_text (answer_data c.args.answer.now)) (c.new-out.ensures.before ∙ c.new.ensures.items)
