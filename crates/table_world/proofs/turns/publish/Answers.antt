use Rattle.table_world.proofs.TurnNotes.{publish_done}
use Rattle.table_world.proofs.turns.publish.Goals as goal

pub returns : goal.returns
returns g c = publish_done c.args.version c.args.bytes.now _ _ _ _ c.publish-answer.result c.requires.known c.ranges.version.fits c.requires.may c.publish-answer.ensures.turn
    c.note_publish.ensures.noted c.note_publish.ensures.seen
