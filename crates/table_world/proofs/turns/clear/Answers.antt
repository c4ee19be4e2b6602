use Rattle.table_world.proofs.TurnNotes.{clear_done}
use Rattle.table_world.proofs.turns.clear.Goals as goal

pub returns : goal.returns
returns g c = clear_done c.args.version c.args.id _ _ _ _ c.clear-answer.result c.requires.known c.ranges.version.fits c.ranges.id.fits c.requires.may c.clear-answer.ensures.turn
    c.note_clear.ensures.noted c.note_clear.ensures.seen
