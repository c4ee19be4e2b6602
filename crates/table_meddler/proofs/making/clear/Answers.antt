use Rattle.table_model.specs.Turns.{ClearTurn}
use Rattle.table_meddler.specs.declared.foreign.Turn.TheVariants as turn
use Rattle.table_meddler.proofs.ReadWorlds.{leads_read, leads_trans}
use Rattle.table_meddler.proofs.Made.{refused_read, meets_made, clear_on, clear_ready, leads_clear}
use Rattle.table_meddler.proofs.making.clear.Goals as goal

pub clear-requires : goal.clear-requires
clear-requires g c = clear_ready _ _ c.args.version c.in-Ok-true.ensures.read (c.in-Ok-true.ensures.reported.0 c.in-Ok-true.field-0-test)

pub returns-clause-meets : goal.returns-clause-meets
returns-clause-meets g c =
    let turned = c.clear.ensures.turn in
    meets_made (turn.Clear c.args.version c.args.id) _ c.clear.result _ _ c.made.ensures
    (λ answered. record { tested = c.may_clear.new.world; read = c.in-Ok-true.ensures.read; allowed = λ t. clear_on _ _ c.args.version c.in-Ok-true.ensures.read (c.in-Ok-true.ensures.reported.0 c.in-Ok-true.field-0-test); made = (c.clear.result, answered, turned) })
    (refused_read (λ r. ClearTurn c.args.version c.args.id c.may_clear.new.world r c.clear.new.self) _ _ _ _ (λ e. e) turned c.in-Ok-true.ensures.read c.clear.ensures.consistent)

pub returns-clause-leads : goal.returns-clause-leads
returns-clause-leads g c = leads_trans _ _ _ (leads_read _ _ c.in-Ok-true.ensures.read) (leads_clear c.args.version c.args.id _ _ c.clear.result c.in-Ok-true.ensures.read.consistent c.ranges.version.fits c.ranges.id.fits (clear_ready _ _ c.args.version c.in-Ok-true.ensures.read (c.in-Ok-true.ensures.reported.0 c.in-Ok-true.field-0-test)) c.clear.ensures.turn c.clear.ensures.consistent)
