use Rattle.table_model.specs.Turns.{ReportTurn}
use Rattle.table_meddler.proofs.Afterwards.{takes_turn}
use Rattle.table_meddler.proofs.meddler.MeddlerSteps.report.Goals as goal

pub returns-clause-among : goal.returns-clause-among
returns-clause-among g c =
    takes_turn (ReportTurn c.args.count) c.report.result _ _ _ _ _ _ _ _ _ c.self.view_is c.as_slice.ensures.value c.saturating_add-self-inside.ensures c.report.ensures.turned c.report.ensures.known.consistent c.report.ensures.known.holds
