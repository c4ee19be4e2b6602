use Rattle.reconcile.proofs.Alike.{tests, metas_Decides}
use Rattle.reconcile.proofs.equal.is_same_meta.Goals as goal

pub returns : goal.returns
returns c = tests _ _ c.eq.ensures (metas_Decides c.args.one.now c.args.other.now)
