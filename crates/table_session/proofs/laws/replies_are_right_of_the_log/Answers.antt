use Rattle.table_session.proofs.Wholes.{told_over}
use Rattle.table_session.proofs.laws.replies_are_right_of_the_log.Goals as goal

pub returns : goal.returns
returns c = told_over
