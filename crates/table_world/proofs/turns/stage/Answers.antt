use Rattle.table_world.proofs.TurnNotes.{stage_done}
use Rattle.table_world.proofs.turns.stage.Goals as goal

pub returns : goal.returns
returns g c = stage_done c.args.version c.args.id c.args.bytes.now _ _ _ _ c.stage-answer.result c.requires.known c.ranges.version.fits c.ranges.id.fits c.stage-answer.ensures.turn
    c.note_stage.ensures.noted c.note_stage.ensures.seen
