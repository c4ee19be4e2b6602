use Rattle.table_session.proofs.Others.{run_uncontested}
use Rattle.table_session.proofs.laws.replies_where_nobody_else_ratifies_are_uncontested.Goals as goal

pub returns : goal.returns
returns c = run_uncontested
