use Rattle.std.proofs.Common.{refl}
use Rattle.table_world.proofs.TurnNotes.{refused_by, report_done}
use Rattle.table_world.proofs.turns.report.Goals as goal

pub returns-in-Err : goal.returns-in-Err
returns-in-Err g c = refused_by _ _ _ _ c.in-Err.fault c.requires.known c.in-Err.ensures.turn refl refl

pub returns : goal.returns
returns g c = report_done c.args.count _ _ _ _ c.in-Ok.answer c.requires.known c.requires.may c.in-Ok.ensures.turn c.note_report.ensures.noted c.note_report.ensures.seen
