use Rattle.std.proofs.Common.{sym, ◌∙◌}
use Rattle.action_fields.proofs.Lists.{behind-nil, texts-more, texts-none}
use Rattle.action_fields.proofs.types.texts_of.Goals as goal

pub loop-item-init : goal.loop-item-init
loop-item-init c = rw c.new-found.ensures (behind-nil _)

pub loop-item-preserved : goal.loop-item-preserved
loop-item-preserved c =
    let e = texts-more c.loop-item.found c.args.items.now c.loop-item.item-index c.item-item.result c.in-Some.text.now c.loop-item-test.true c.item-item.is (sym c.in-Some.ensures) in
    let p = c.in_ok-push-in-Some.ensures.ok in
    rw (p, c.in_ok-from_str-in-Some.ensures) (sym e ∙ c.loop-item.invariant)

pub returns-in-None : goal.returns-in-None
returns-in-None c =
    sym (texts-none c.loop-item.found c.args.items.now c.loop-item.item-index c.item-item.result c.loop-item-test.true c.item-item.is (sym c.in-None.ensures)) ∙ c.loop-item.invariant
