use Rattle.std.proofs.Common.{◌∙◌, arith}
use Rattle.table_model.proofs.Knowing.{length-log_of}
use Rattle.table_meddler.proofs.ReadWorlds.{handed, read_trans, replay_step, replayed_all, shown_later}
use Rattle.table_meddler.proofs.reading.log_state.Goals as goal

pub loop-version-preserved : goal.loop-version-preserved
loop-version-preserved g c =
    let found = rw c.in-Some.is at c.in_ok-actions.ensures.actions in
    record {
      read = read_trans _ _ _ c.loop-version.invariant.read c.commit_actions.ensures.read;
      state = replay_step c.in_ok-state.state c.args.world.now c.loop-version.world c.loop-version.version c.as_slice.result.now c.loop-version.invariant.read (omega (arith, c.loop-version-test.true, c.count-version-end.ensures.value))
          (λ t. c.as_slice.ensures.value ∙ found t) (λ t. c.in_ok-state.ensures.stands _ (c.loop-version.invariant.state t));
    }

pub returns-clause-state : goal.returns-clause-state
returns-clause-state g c = λ t.
    replayed_all _ _ c.loop-version.version (let e = length-log_of c.args.world.now in omega (arith, e, c.loop-version-test.false, c.count-version-end.ensures.value)) (c.loop-version.invariant.state t)

pub returns-in_err-actions-clause-fault : goal.returns-in_err-actions-clause-fault
returns-in_err-actions-clause-fault g c =
    handed c.from_residual.result c.in_err-actions.field-0.0 _ c.from_residual.ensures.1 (shown_later _ _ _ c.in_err-actions.field-0.0 c.loop-version.invariant.read.tally c.in_err-actions.ensures.fault)
