use Rattle.std.proofs.Common.{◌≡◌, ◌++◌, ◌∷◌, [], ℤ, Ok, Some, subst, w64}
use Rattle.std.proofs.lemmas.Int.{to_z-of_z}
use Rattle.std.specs.declared.alloc.AllocError.{AllocError}
use Rattle.action_fields.specs.Canonical.{integer_data}
use Rattle.action_fields.specs.Tokens.{Puts, field_tokens}
use Rattle.session_lines.proofs.Loading.{pushed-member}
use Rattle.session_lines.proofs.loaded.push_integer.Goals as goal

pub returns : goal.returns
returns c =
    let starts : c.new-writer.result.before ≡ c.args.out.now.items ++ 44 ∷ [] = cc (c.new-writer.ensures.before, c.replace.ensures.value, c.in_ok-push.ensures.items) in
    let P : ℤ → Type 0 = λ z. Puts {E = AllocError} (Ok c.in_ok-put_integer.field-0) c.new-writer.result c.put_integer.new.out (field_tokens c.args.name.now (Some (integer_data z))) in
    pushed-member (Ok c.in_ok-put_integer.field-0) c.args.out.now.items c.new-writer.result c.put_integer.new.out c.args.name.now (integer_data c.args.number) c.into_inner.result.items
    c.new-writer.ensures.tokens starts (subst P (to_z-of_z w64 c.args.number c.ranges.number) c.in_ok-put_integer.ensures) c.into_inner.ensures.items
