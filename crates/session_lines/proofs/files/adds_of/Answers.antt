use Rattle.std.proofs.Common.{sym, ◌∙◌}
use Rattle.session_lines.proofs.Steps.{behind-nil, adds-more, adds-none}
use Rattle.session_lines.proofs.files.adds_of.Goals as goal

pub loop-item-init : goal.loop-item-init
loop-item-init c = rw c.new-found.ensures (behind-nil _)

pub loop-item-preserved : goal.loop-item-preserved
loop-item-preserved c =
    let e = adds-more c.loop-item.found c.args.items.now c.loop-item.item-index c.item-item.result c.in-Some.add c.loop-item-test.true c.item-item.is (sym c.in_ok-add_of.ensures ∙ c.in-Some.is) in
    let p = c.in_ok-push-in-Some.ensures.ok in
    rw p (sym e ∙ c.loop-item.invariant)

pub returns-in-None : goal.returns-in-None
returns-in-None c =
    sym (adds-none c.loop-item.found c.args.items.now c.loop-item.item-index c.item-item.result c.loop-item-test.true c.item-item.is (sym c.in_ok-add_of.ensures ∙ c.in-None.is)) ∙ c.loop-item.invariant
