use Rattle.std.proofs.Common.{◌∙◌, ap, sym, cond, string_bytes}
use Rattle.std.specs.Prelude.{None, is_some}
use Rattle.std.specs.FinMap as fin
use Rattle.reconcile.specs.Keys.{name_cmp}
use Rattle.reconcile.specs.Named.{named}
use Rattle.reconcile.proofs.Laying.{struck_more}
use Rattle.reconcile.proofs.by_name.ByName.strike.Goals as goal

pub loop-name-init : goal.loop-name-init
loop-name-init g c = λ q.
    ap (λ o. cond (is_some o) None (fin.get c.args.self.now q))
    (ap (λ es. fin.find name_cmp q (named es)) c.into_iter-name-iterator.ensures.into_iter_gives
    ∙ ap (fin.find name_cmp q) c.entries-name-items.ensures ∙ sym (fin.get-entries c.args.names.now q))

pub loop-name-preserved : goal.loop-name-preserved
loop-name-preserved g c = λ q.
    struck_more q (string_bytes c.in-Some.name.now) c.in-Some.field-0-1.now (named c.next.new.self) c.loop-name.self c.remove.new.self
    (c.remove.ensures ∙ ap (fin.remove c.loop-name.self) c.as_str.ensures.value)
    ∙ ap (λ es. cond (is_some (fin.find name_cmp q (named es))) None (fin.get c.loop-name.self q)) (sym c.in-Some.ensures.steps)
    ∙ c.loop-name.invariant q

pub returns : goal.returns
returns g c = λ q.
    ap (λ es. cond (is_some (fin.find name_cmp q (named es))) None (fin.get c.loop-name.self q)) (sym c.in-None.ensures.steps.0)
    ∙ c.loop-name.invariant q
