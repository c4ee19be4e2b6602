use Rattle.reconcile.proofs.OnBase.{one_after, after_none, after_steps}
use Rattle.reconcile.proofs.laws.a_base_and_commits_make_one_state.Goals as goal

pub returns : goal.returns
returns c = record { one = one_after; none = after_none; steps = after_steps }
