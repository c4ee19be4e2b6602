use Rattle.table_meddler.proofs.ReadWorlds.{leads_trans}
use Rattle.table_meddler.proofs.Made.{made_more, made_end, cut_more, cut_here, refused_with}
use Rattle.table_meddler.proofs.making.meddle.Goals as goal

pub loop-foreign-preserved : goal.loop-foreign-preserved
loop-foreign-preserved g c = record {
  leads = leads_trans _ _ _ c.loop-foreign.invariant.leads c.make_before.ensures.leads;
  made = λ x rest. c.loop-foreign.invariant.made x
      (made_more c.args.turns.now c.loop-foreign.foreign-index c.args.number c.foreign-item.result c.loop-foreign.world c.make_before.new.world x c.loop-foreign-test.true c.foreign-item.is c.in_ok-make_before.ensures.done rest);
  cut = λ x rest. c.loop-foreign.invariant.cut x
      (cut_more c.args.turns.now c.loop-foreign.foreign-index c.args.number c.foreign-item.result c.loop-foreign.world c.make_before.new.world x c.loop-foreign-test.true c.foreign-item.is c.in_ok-make_before.ensures.done rest);
}

pub returns-in_err-make_before-clause-made : goal.returns-in_err-make_before-clause-made
returns-in_err-make_before-clause-made g c =
    refused_with c.from_residual.result _ _ c.from_residual.ensures.0 (c.loop-foreign.invariant.cut _ (cut_here c.args.turns.now c.loop-foreign.foreign-index c.args.number c.foreign-item.result c.loop-foreign.world c.make_before.new.world c.loop-foreign-test.true c.foreign-item.is c.in_err-make_before.ensures.done))

pub returns-clause-made : goal.returns-clause-made
returns-clause-made g c = c.loop-foreign.invariant.made _ (made_end c.args.turns.now c.loop-foreign.foreign-index c.args.number c.loop-foreign.world c.loop-foreign-test.false)
