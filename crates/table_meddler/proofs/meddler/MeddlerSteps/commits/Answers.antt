use Rattle.table_model.specs.Turns.{CommitsTurn}
use Rattle.table_meddler.proofs.Afterwards.{takes_turn}
use Rattle.table_meddler.proofs.meddler.MeddlerSteps.commits.Goals as goal

pub returns-clause-among : goal.returns-clause-among
returns-clause-among g c =
    takes_turn CommitsTurn c.commits.result _ _ _ _ _ _ _ _ _ c.self.view_is c.as_slice.ensures.value c.saturating_add-self-inside.ensures c.commits.ensures.turned c.commits.ensures.known.consistent c.commits.ensures.known.holds
