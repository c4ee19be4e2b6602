use Rattle.table_model.specs.Turns.{ClearTurn}
use Rattle.table_meddler.proofs.Afterwards.{takes_turn}
use Rattle.table_meddler.proofs.meddler.MeddlerSteps.clear.Goals as goal

pub returns-clause-among : goal.returns-clause-among
returns-clause-among g c =
    takes_turn (ClearTurn c.args.version c.args.id) c.clear.result _ _ _ _ _ _ _ _ _ c.self.view_is c.as_slice.ensures.value c.saturating_add-self-inside.ensures c.clear.ensures.turned c.clear.ensures.known.consistent c.clear.ensures.known.holds
