use Rattle.table_model.specs.Turns.{LookupTurn}
use Rattle.table_meddler.proofs.Afterwards.{takes_turn}
use Rattle.table_meddler.proofs.meddler.MeddlerSteps.lookup.Goals as goal

pub returns-clause-among : goal.returns-clause-among
returns-clause-among g c =
    takes_turn (LookupTurn c.args.version) c.lookup.result _ _ _ _ _ _ _ _ _ c.self.view_is c.as_slice.ensures.value c.saturating_add-self-inside.ensures c.lookup.ensures.turned c.lookup.ensures.known.consistent c.lookup.ensures.known.holds
