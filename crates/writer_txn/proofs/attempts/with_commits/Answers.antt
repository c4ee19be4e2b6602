use Rattle.std.proofs.Common.{arith, ◌∙◌, ap}
use Rattle.std.specs.Prelude.{Vec}
use Rattle.std.specs.declared.alloc.Global.{Global}
use Rattle.action_types.specs.declared.actions.Action.{Action}
use Rattle.writer_txn.proofs.Judgements.{applied_more, applied_none, applied_all}
use Rattle.writer_txn.proofs.attempts.with_commits.Goals as goal

pub loop-commit-init : goal.loop-commit-init
loop-commit-init c = λ log h. applied_none _ log h

pub loop-commit-preserved : goal.loop-commit-preserved
loop-commit-preserved c = λ log h.
    let more = c.in_ok-state.ensures.stands _ (c.loop-commit.invariant log h) in
    applied_more _ log _ _ c.commit-item.result _ c.loop-commit-test.true
    (c.as_slice.ensures.value ∙ ap (λ (v : Vec Action Global). v.items) c.commit-item.is) more

pub returns : goal.returns
returns c = λ log h. applied_all _ log _ _ (omega (arith, c.loop-commit-test.false)) (c.loop-commit.invariant log h)
