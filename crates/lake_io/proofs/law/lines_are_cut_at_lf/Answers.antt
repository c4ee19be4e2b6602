use Rattle.lake_io.proofs.Hearing.{heard_next, heard_start}
use Rattle.lake_io.proofs.law.lines_are_cut_at_lf.Goals as goal

pub returns-clause-start : goal.returns-clause-start
returns-clause-start c = heard_start

pub returns-clause-step : goal.returns-clause-step
returns-clause-step c = heard_next
