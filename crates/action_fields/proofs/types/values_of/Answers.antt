use Rattle.std.proofs.Common.{sym, ◌∙◌}
use Rattle.std.specs.Map.Iter.{deref_pair}
use Rattle.std.proofs.lemmas.Map.Iter.{rest_more}
use Rattle.action_fields.proofs.Lists.{behind-nil, values-more, values-none}
use Rattle.action_fields.proofs.types.values_of.Goals as goal

pub loop-name-init : goal.loop-name-init
loop-name-init c = (tt, tt, rw (c.new-found.ensures, c.into_iter-name-iterator.ensures.into_iter_gives, c.iter-name-items.ensures.rest) (behind-nil _))

pub loop-name-preserved : goal.loop-name-preserved
loop-name-preserved c =
    let cut = rest_more deref_pair c.loop-name.name-iterator c.next.new.self c.next.result (c.in-Some.name, c.in-Some.value) c.in-Some.is c.next.ensures.steps in
    let e = values-more c.args.nulls c.loop-name.found (deref_pair (c.in-Some.name, c.in-Some.value)) c.next.new.self c.loop-name.name-iterator c.in-Some-2.text cut (sym c.in_ok-value_of.ensures ∙ c.in-Some-2.is) in
    (tt, tt, rw (c.in_ok-push-in-Some-2.ensures.ok, c.in_ok-from_str-in-Some-2.ensures) (sym e ∙ c.loop-name.invariant.2))

pub returns-in-None-2 : goal.returns-in-None-2
returns-in-None-2 c =
    let cut = rest_more deref_pair c.loop-name.name-iterator c.next.new.self c.next.result (c.in-Some.name, c.in-Some.value) c.in-Some.is c.next.ensures.steps in
    sym (values-none c.args.nulls c.loop-name.found (deref_pair (c.in-Some.name, c.in-Some.value)) c.next.new.self c.loop-name.name-iterator cut (sym c.in_ok-value_of.ensures ∙ c.in-None-2.is)) ∙ c.loop-name.invariant.2
