use Rattle.table_model.specs.Turns.{StageTurn}
use Rattle.table_meddler.proofs.Afterwards.{takes_turn}
use Rattle.table_meddler.proofs.meddler.MeddlerSteps.stage.Goals as goal

pub returns-clause-among : goal.returns-clause-among
returns-clause-among g c =
    takes_turn (StageTurn c.args.version c.args.id c.args.bytes.now) c.stage.result _ _ _ _ _ _ _ _ _ c.self.view_is c.as_slice.ensures.value c.saturating_add-self-inside.ensures c.stage.ensures.turned c.stage.ensures.known.consistent c.stage.ensures.known.holds
