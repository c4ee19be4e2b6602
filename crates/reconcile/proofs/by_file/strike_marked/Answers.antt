use Rattle.std.proofs.Common.{◌∙◌, ap, subst, string_bytes}
use Rattle.reconcile.specs.Laying.{StrikesIds}
use Rattle.reconcile.specs.Named.{named}
use Rattle.reconcile.proofs.Laying.{StrikesRest, strikes_none, strikes_more, strikes_all}
use Rattle.reconcile.proofs.by_file.strike_marked.Goals as goal

pub loop-path-init : goal.loop-path-init
loop-path-init g c =
    strikes_none c.args.marked.now c.args.others.now (named c.into_iter-path-iterator.result)
    (ap named c.into_iter-path-iterator.ensures.into_iter_gives ∙ c.entries-path-items.ensures)

pub loop-path-preserved : goal.loop-path-preserved
loop-path-preserved g c =
    strikes_more c.args.marked.now c.args.others.now (string_bytes c.in-Some.path.now) c.in-Some.ids.now (named c.next.new.self) c.loop-path.marked c.strike_ids.new.marked
    (subst (λ es. StrikesRest c.args.marked.now c.args.others.now (named es) c.loop-path.marked) c.in-Some.ensures.steps c.loop-path.invariant)
    (subst (λ k. StrikesIds c.loop-path.marked k c.in-Some.ids.now c.strike_ids.new.marked) c.as_str.ensures.value c.in_ok-strike_ids.ensures)

pub returns : goal.returns
returns g c =
    strikes_all c.args.marked.now c.args.others.now (named c.loop-path.path-iterator) c.loop-path.marked c.loop-path.invariant (ap named c.in-None.ensures.steps.0)
