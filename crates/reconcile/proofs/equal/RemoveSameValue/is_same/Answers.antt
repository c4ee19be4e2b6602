use Rattle.reconcile.proofs.Alike.{tests, remove_Decides}
use Rattle.reconcile.proofs.equal.RemoveSameValue.is_same.Goals as goal

pub returns : goal.returns
returns c = tests _ _ c.eq.ensures (remove_Decides c.args.self.now c.args.other.now)
