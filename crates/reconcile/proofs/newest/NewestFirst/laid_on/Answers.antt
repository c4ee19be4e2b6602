use Rattle.reconcile.proofs.Under.{over_all}
use Rattle.reconcile.proofs.newest.NewestFirst.laid_on.Goals as goal

pub returns : goal.returns
returns c = over_all c.args.base c.in_ok-state.state c.in_ok-state-2.state c.under_rest.result c.args.self c.in_ok-state.ensures c.in_ok-state-2.ensures c.under_rest.ensures
