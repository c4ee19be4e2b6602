use Rattle.table_model.specs.Turns.{ReportTurn}
use Rattle.table_meddler.specs.declared.foreign.Turn.TheVariants as turn
use Rattle.table_meddler.proofs.ReadWorlds.{leads_read, leads_trans}
use Rattle.table_meddler.proofs.Made.{refused_read, meets_made, published_on, report_ready, leads_report}
use Rattle.table_meddler.proofs.making.report.Goals as goal

pub report-requires : goal.report-requires
report-requires g c = report_ready _ _ c.args.count c.in-Ok-true.ensures.read (c.in-Ok-true.ensures.ratified c.in-Ok-true.field-0-test) (λ t. (c.in-Ok-true.ensures.tests t).0 c.in-Ok-true.field-0-test)

pub returns-clause-meets : goal.returns-clause-meets
returns-clause-meets g c =
    let turned = c.report.ensures.turn in
    meets_made (turn.Report c.args.count) _ c.report.result _ _ c.made.ensures
    (λ answered. record { tested = c.may_report.new.world; read = c.in-Ok-true.ensures.read; allowed = λ t. published_on _ _ c.args.count c.in-Ok-true.ensures.read ((c.in-Ok-true.ensures.tests t).0 c.in-Ok-true.field-0-test); made = (c.report.result, answered, turned) })
    (refused_read (λ r. ReportTurn c.args.count c.may_report.new.world r c.report.new.self) _ _ _ _ (λ e. e) turned c.in-Ok-true.ensures.read c.report.ensures.consistent)

pub returns-clause-leads : goal.returns-clause-leads
returns-clause-leads g c = leads_trans _ _ _ (leads_read _ _ c.in-Ok-true.ensures.read) (leads_report c.args.count _ _ c.report.result c.in-Ok-true.ensures.read.consistent (report_ready _ _ c.args.count c.in-Ok-true.ensures.read (c.in-Ok-true.ensures.ratified c.in-Ok-true.field-0-test) (λ t. (c.in-Ok-true.ensures.tests t).0 c.in-Ok-true.field-0-test)) c.report.ensures.turn c.report.ensures.consistent)
