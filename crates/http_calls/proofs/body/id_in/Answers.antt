use Rattle.std.proofs.Common.{true≢false, sym, ap, ◌∙◌, arith}
use Rattle.log_names.specs.Reading.{same_id}
use Rattle.log_names.proofs.Ids.{id_in-unparsed, id_in-parsed, same_id-text, same_id-other}
use Rattle.http_calls.proofs.body.id_in.Goals as goal

pub returns-in_default : goal.returns-in_default
returns-in_default c =
    sym (id_in-unparsed c.args.bytes.now (λ bytes e. true≢false (sym (c.in_default.ensures.ok.1 (bytes, e)))))

pub returns-then-is_uuid_of : goal.returns-then-is_uuid_of
returns-then-is_uuid_of c =
    sym (id_in-parsed c.args.bytes.now c.in-Ok.parsed c.in-Ok.ensures.bytes
    ∙ ap (same_id c.args.bytes.now) (sym c.as_u128-id.ensures)
    ∙ same_id-text c.args.bytes.now c.as_u128-id.result (omega arith) (sym c.is_uuid_of.ensures ∙ c.if-is_uuid_of.true))

pub returns-else-is_uuid_of : goal.returns-else-is_uuid_of
returns-else-is_uuid_of c =
    sym (id_in-parsed c.args.bytes.now c.in-Ok.parsed c.in-Ok.ensures.bytes
    ∙ ap (same_id c.args.bytes.now) (sym c.as_u128-id.ensures)
    ∙ same_id-other c.args.bytes.now c.as_u128-id.result (sym c.is_uuid_of.ensures ∙ c.if-is_uuid_of.false))
