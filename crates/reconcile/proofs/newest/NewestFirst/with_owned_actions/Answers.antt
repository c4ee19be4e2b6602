use Rattle.std.proofs.Common.{◌∙◌, ap, sym}
use Rattle.reconcile.specs.StepsBack.{all_before}
use Rattle.reconcile.specs.declared.newest.NewestFirst.{NewestFirst}
use Rattle.reconcile.proofs.Decided.{last_left}
use Rattle.reconcile.proofs.newest.NewestFirst.with_owned_actions.Goals as goal

pub loop-action-preserved : goal.loop-action-preserved
loop-action-preserved c =
    ap {A = NewestFirst} (λ n. all_before n c.pop.new.self.items) c.in_ok-newest.ensures
    ∙ sym (last_left c.loop-action.newest c.pop.new.self.items c.in-Some.action)
    ∙ ap (all_before c.loop-action.newest) (sym c.in-Some.ensures.items)
    ∙ c.loop-action.invariant
