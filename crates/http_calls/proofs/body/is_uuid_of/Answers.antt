use Rattle.std.proofs.Common.{ℕ, List, ap, ◌∙◌}
use Rattle.std.specs.Str.{bytes_eq}
use Rattle.uuid.specs.Text.{hyphenated_text, lower}
use Rattle.log_names.specs.Texts.{uuid_text}
use Rattle.http_calls.proofs.body.is_uuid_of.Goals as goal

pub returns : goal.returns
unfolding uuid_text
returns c =
    c.eq.ensures
    ∙ ap (λ (l : List ℕ). bytes_eq l c.args.bytes.now)
    (c.as_bytes.ensures.value ∙ c.encode_lower-text.ensures.text ∙ ap (hyphenated_text lower) (c.hyphenated.ensures ∙ c.from_u128.ensures))
