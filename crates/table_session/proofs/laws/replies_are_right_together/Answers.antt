use Rattle.table_session.proofs.Chains.{run_told}
use Rattle.table_session.proofs.laws.replies_are_right_together.Goals as goal

pub returns : goal.returns
returns c = run_told
