use Rattle.table_meddler.proofs.ReadWorlds.{handed, commits_shown}
use Rattle.table_meddler.proofs.judging.may_clear.Goals as goal

pub returns-in_err-commits-clause-fault : goal.returns-in_err-commits-clause-fault
returns-in_err-commits-clause-fault g c =
    handed c.from_residual.result c.in_err-commits.field-0.0 _ c.from_residual.ensures.1 (commits_shown _ _ c.in_err-commits.field-0.0 c.in_err-commits.ensures.turn)
