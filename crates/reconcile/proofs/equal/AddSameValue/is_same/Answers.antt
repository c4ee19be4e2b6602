use Rattle.reconcile.proofs.Alike.{tests, add_Decides}
use Rattle.reconcile.proofs.equal.AddSameValue.is_same.Goals as goal

pub returns : goal.returns
returns c = tests _ _ c.eq.ensures (add_Decides c.args.self.now c.args.other.now)
