use Rattle.table_world.proofs.TurnNotes.{get_done}
use Rattle.table_world.proofs.turns.get.Goals as goal

pub returns : goal.returns
returns g c = get_done c.args.name _ _ _ _ c.get-answer.result c.is_seen-is_seen.result c.requires.known c.get-answer.ensures.turn
    c.is_seen-is_seen.ensures c.note_get.ensures.noted c.note_get.ensures.seen
