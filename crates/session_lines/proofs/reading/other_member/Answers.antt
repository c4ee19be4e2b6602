use Rattle.std.proofs.Common.{◌≡◌, false, refl, sym, ◌∙◌}
use Rattle.std.specs.Map.Iter.{deref_pair}
use Rattle.std.proofs.lemmas.Map.Iter.{rest_more}
use Rattle.json_tree.specs.View.{view}
use Rattle.session_lines.specs.Members.{is_other}
use Rattle.session_lines.proofs.Steps.{other-passed}
use Rattle.session_lines.proofs.reading.other_member.Goals as goal

pub loop-name-init : goal.loop-name-init
loop-name-init c = (tt, tt, rw (c.into_iter-name-iterator.ensures.into_iter_gives, c.iter-name-items.ensures.rest) refl)

pub loop-name-preserved : goal.loop-name-preserved
loop-name-preserved c =
    let cut = rest_more deref_pair c.loop-name.name-iterator c.next.new.self c.next.result (c.in-Some.name, c.in-Some.value) c.in-Some.is c.next.ensures.steps in
    let is : is_other c.args.op c.in-Some.name.now.now (view c.in-Some.value.now) ≡ false = sym c.is_other.ensures ∙ c.if-is_other.false in
    let e = other-passed c.args.op (deref_pair (c.in-Some.name, c.in-Some.value)) c.next.new.self c.loop-name.name-iterator cut is in
    (tt, tt, sym e ∙ c.loop-name.invariant.2)
