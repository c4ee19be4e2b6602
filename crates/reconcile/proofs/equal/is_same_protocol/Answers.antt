use Rattle.reconcile.proofs.Alike.{tests, protocols_Decides}
use Rattle.reconcile.proofs.equal.is_same_protocol.Goals as goal

pub returns : goal.returns
returns c = tests _ _ c.eq.ensures (protocols_Decides c.args.one.now c.args.other.now)
