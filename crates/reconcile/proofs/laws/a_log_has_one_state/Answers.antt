use Rattle.reconcile.proofs.Listing.{one_state}
use Rattle.reconcile.proofs.laws.a_log_has_one_state.Goals as goal

pub returns : goal.returns
returns c = one_state
