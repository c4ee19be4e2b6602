use mir.Syntax.{w64}
use Rattle.std.proofs.lemmas.Int.{to_z-of_z}
use Rattle.table_model.specs.Turns.{RatifyTurn}
use Rattle.table_meddler.proofs.Afterwards.{takes_turn}
use Rattle.table_meddler.proofs.meddler.MeddlerSteps.ratify.Goals as goal

pub returns-clause-among : goal.returns-clause-among
returns-clause-among g c =
    takes_turn (RatifyTurn c.args.version c.args.id c.args.time) c.ratify.result _ _ _ _ _ _ _ _ _ c.self.view_is c.as_slice.ensures.value c.saturating_add-self-inside.ensures (rw (to_z-of_z w64 c.args.time c.ranges.time) at c.ratify.ensures.turned) c.ratify.ensures.known.consistent c.ratify.ensures.known.holds
