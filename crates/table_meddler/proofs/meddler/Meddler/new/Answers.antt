use Rattle.table_world.proofs.TurnNotes.{known_at_start}
use Rattle.table_meddler.proofs.meddler.Meddler.new.Goals as goal

pub invariant_of-result : goal.invariant_of-result
invariant_of-result g c = (known_at_start c.args.world c.new.result c.count-count.ensures.consistent c.new.ensures.seen c.new.ensures.nothing, c.count-count.ensures.tells)
