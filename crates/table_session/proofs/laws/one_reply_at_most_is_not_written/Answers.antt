use Rattle.table_session.proofs.Wholes.{session_whole}
use Rattle.table_session.proofs.laws.one_reply_at_most_is_not_written.Goals as goal

pub returns : goal.returns
returns c = session_whole
