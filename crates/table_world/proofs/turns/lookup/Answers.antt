use Rattle.std.proofs.Common.{refl}
use Rattle.table_world.proofs.TurnNotes.{refused_by, lookup_done}
use Rattle.table_world.proofs.turns.lookup.Goals as goal

pub returns-in-Err : goal.returns-in-Err
returns-in-Err g c = refused_by _ _ _ _ c.in-Err.fault c.requires.known c.in-Err.ensures.turn refl refl

pub returns : goal.returns
returns g c = lookup_done c.args.version _ _ _ _ c.in-Ok.looked c.requires.known c.in-Ok.ensures.turn c.note_lookup.ensures.noted c.note_lookup.ensures.seen
