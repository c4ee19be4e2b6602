use Rattle.table_model.specs.Turns.{PublishTurn}
use Rattle.table_meddler.proofs.Afterwards.{takes_turn}
use Rattle.table_meddler.proofs.meddler.MeddlerSteps.publish.Goals as goal

pub returns-clause-among : goal.returns-clause-among
returns-clause-among g c =
    takes_turn (PublishTurn c.args.version c.args.bytes.now) c.publish.result _ _ _ _ _ _ _ _ _ c.self.view_is c.as_slice.ensures.value c.saturating_add-self-inside.ensures c.publish.ensures.turned c.publish.ensures.known.consistent c.publish.ensures.known.holds
