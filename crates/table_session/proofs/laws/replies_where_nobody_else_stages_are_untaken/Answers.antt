use Rattle.table_session.proofs.Others.{run_untaken}
use Rattle.table_session.proofs.laws.replies_where_nobody_else_stages_are_untaken.Goals as goal

pub returns : goal.returns
returns c = run_untaken
