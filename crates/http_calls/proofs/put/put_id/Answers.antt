use Rattle.std.proofs.Common.{◌≡◌, ap, ◌∙◌, sym}
use Rattle.uuid.specs.Text.{hyphenated_text, lower}
use Rattle.log_names.specs.Texts.{uuid_text}
use Rattle.http_calls.proofs.put.put_id.Goals as goal

pub returns : goal.returns
unfolding uuid_text
returns c =
    let written : c.encode_lower.result.now ≡ uuid_text c.args.id =
    c.encode_lower.ensures.text ∙ ap (hyphenated_text lower) (c.hyphenated.ensures ∙ c.from_u128.ensures) in
    rw (sym written) c.put_text.ensures
