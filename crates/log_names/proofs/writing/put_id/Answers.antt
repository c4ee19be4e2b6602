use Rattle.std.proofs.Common.{◌≡◌, ◌++◌, length, ap, arith, ◌∙◌}
use Rattle.uuid.specs.Text.{hyphenated_text, lower}
use Rattle.log_names.specs.Texts.{uuid_text}
use Rattle.log_names.proofs.Ids.{length-uuid_text}
use Rattle.log_names.proofs.writing.put_id.Goals as goal

pub put-requires : goal.put-requires
unfolding uuid_text
put-requires c =
    let written : c.encode_lower-written.result.now ≡ uuid_text c.args.id =
    c.encode_lower-written.ensures.text ∙ ap (hyphenated_text lower) (c.hyphenated.ensures ∙ c.from_u128.ensures) in
    let long : length c.encode_lower-written.result.now ≡ 36 = ap length written ∙ length-uuid_text c.args.id in
    omega (arith, long, c.requires)

pub returns : goal.returns
unfolding uuid_text
returns c =
    c.put.ensures ∙ ap (λ l. c.args.text.now ++ l)
    (c.encode_lower-written.ensures.text ∙ ap (hyphenated_text lower) (c.hyphenated.ensures ∙ c.from_u128.ensures))
