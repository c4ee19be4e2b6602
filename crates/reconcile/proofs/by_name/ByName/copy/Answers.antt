use Rattle.std.proofs.Common.{◌∙◌, ap, sym}
use Rattle.std.specs.FinMap as fin
use Rattle.reconcile.proofs.Named.{copy_none, copy_more, copy_all}
use Rattle.reconcile.proofs.by_name.ByName.copy.Goals as goal

pub loop-name-init : goal.loop-name-init
loop-name-init g c = λ q.
    copy_none c.self.inside.entries c.into_iter-name-iterator.result.iter c.new-copy.result
    (ap (λ r. r.iter) c.into_iter-name-iterator.ensures.into_iter_gives ∙ c.rev-name-items.ensures.source ∙ c.iter.ensures.rest) c.new-copy.ensures q
    ∙ ap (λ m. fin.get m q) c.self.view_is

pub loop-name-preserved : goal.loop-name-preserved
loop-name-preserved g c = λ q.
    copy_more c.loop-name.name-iterator.iter c.next.new.self.iter c.loop-name.copy c.insert.new.self (c.in-Some.name.now, c.in-Some.value.now) c.in-Some.ensures.steps
    (c.in_ok-insert.ensures.ok ∙ (λ i. fin.insert c.loop-name.copy ((c.in_ok-name.ensures ∙ c.as_str.ensures.value) i) (c.in_ok-equal_copy.ensures i))) q
    ∙ c.loop-name.invariant q

pub returns : goal.returns
returns g c =
    copy_all c.self.inside.entries c.loop-name.name-iterator.iter c.loop-name.copy c.in-None.ensures.steps.0
    (λ q. c.loop-name.invariant q ∙ ap (λ m. fin.get m q) (sym c.self.view_is))
    ∙ c.self.view_is
