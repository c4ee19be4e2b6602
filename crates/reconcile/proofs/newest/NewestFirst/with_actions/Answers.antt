use Rattle.std.proofs.Common.{◌∙◌, ap, sym}
use Rattle.std.specs.Slice.Iter.{iter_rest}
use Rattle.reconcile.specs.StepsBack.{all_before}
use Rattle.reconcile.specs.declared.newest.NewestFirst.{NewestFirst}
use Rattle.reconcile.proofs.Decided.{last_left}
use Rattle.reconcile.proofs.newest.NewestFirst.with_actions.Goals as goal

pub loop-action-preserved : goal.loop-action-preserved
loop-action-preserved c =
    ap {A = NewestFirst} (λ n. all_before n (iter_rest c.next.new.self.iter)) c.in_ok-newest.ensures
    ∙ sym (last_left c.loop-action.newest (iter_rest c.next.new.self.iter) c.in-Some.action.now)
    ∙ ap (all_before c.loop-action.newest) (sym c.in-Some.ensures.steps)
    ∙ c.loop-action.invariant
