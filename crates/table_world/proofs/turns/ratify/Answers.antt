use Rattle.std.proofs.Common.{refl, ◌∙◌}
use Rattle.table_world.proofs.TurnNotes.{refused_by, ratify_done}
use mir.Syntax.{w64}
use Rattle.std.proofs.lemmas.Int.{to_z-of_z}
use Rattle.table_world.proofs.turns.ratify.Goals as goal

pub returns-in-Err : goal.returns-in-Err
returns-in-Err g c = refused_by _ _ _ _ c.in-Err.fault c.requires.known c.in-Err.ensures.turn refl refl

pub returns : goal.returns
returns g c = ratify_done c.args.version c.args.id c.args.time _ _ _ _ c.in-Ok.answer c.requires.known c.requires.may
    (rw (to_z-of_z w64 c.args.time c.ranges.time) at c.in-Ok.ensures.turn)
    c.note_ratify.ensures.noted
    (c.note_ratify.ensures.seen ∙ c.count.ensures.value)
