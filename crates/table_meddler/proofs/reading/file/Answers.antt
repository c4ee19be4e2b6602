use Rattle.table_meddler.proofs.ReadWorlds.{get_read, get_shown}
use Rattle.table_meddler.proofs.reading.file.Goals as goal

pub returns-in-Ok-Whole-clause-read : goal.returns-in-Ok-Whole-clause-read
returns-in-Ok-Whole-clause-read g c = get_read c.args.name _ _ c.get.result c.get.ensures.consistent c.get.ensures.turn

pub returns-in-Ok-Absent-clause-read : goal.returns-in-Ok-Absent-clause-read
returns-in-Ok-Absent-clause-read g c = get_read c.args.name _ _ c.get.result c.get.ensures.consistent c.get.ensures.turn

pub returns-in-Err-clause-read : goal.returns-in-Err-clause-read
returns-in-Err-clause-read g c = get_read c.args.name _ _ c.get.result c.get.ensures.consistent c.get.ensures.turn

pub returns-in-Err-clause-fault : goal.returns-in-Err-clause-fault
returns-in-Err-clause-fault g c = get_shown c.args.name _ _ c.in-Err.fault c.in-Err.ensures.turn
