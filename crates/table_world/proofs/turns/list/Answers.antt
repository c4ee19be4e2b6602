use Rattle.table_world.proofs.TurnNotes.{list_done}
use Rattle.table_world.proofs.turns.list.Goals as goal

pub returns : goal.returns
returns g c = list_done _ _ _ _ c.list-answer.result c.requires.known c.list-answer.ensures.turn c.note_list.ensures.noted c.note_list.ensures.seen
