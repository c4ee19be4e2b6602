use Rattle.std.specs.Prelude.{Ok, Err}
use Rattle.publisher.proofs.Causing.{turn_refused}
use Rattle.publisher.proofs.Faults.{turn_counts}
use Rattle.publisher.proofs.Removing.{clear_tells, gone_tells}
use Rattle.publisher.proofs.clearing.clear_file.Goals as goal

pub returns-in-Ok-Done-clause-world : goal.returns-in-Ok-Done-clause-world
returns-in-Ok-Done-clause-world g c =
    clear_tells c.args.version c.args.id (Ok c.in-Ok-Done.field-0) _ _ c.ranges.version.fits c.ranges.id.fits c.in-Ok-Done.ensures.turn

pub returns-in-Ok-Done-clause-gone : goal.returns-in-Ok-Done-clause-gone
returns-in-Ok-Done-clause-gone g c = gone_tells c.args.version c.args.id c.in-Ok-Done.field-0 _ _ c.in-Ok-Done.ensures.turn

pub returns-in-Ok-Absent-clause-world : goal.returns-in-Ok-Absent-clause-world
returns-in-Ok-Absent-clause-world g c =
    clear_tells c.args.version c.args.id (Ok c.in-Ok-Absent.field-0) _ _ c.ranges.version.fits c.ranges.id.fits c.in-Ok-Absent.ensures.turn

pub returns-in-Err-clause-cause : goal.returns-in-Err-clause-cause
returns-in-Err-clause-cause g c = rw c.from.ensures (turn_refused _ _ _ _ _ c.in-Err.ensures.learns)

pub returns-in-Err-clause-world : goal.returns-in-Err-clause-world
returns-in-Err-clause-world g c =
    clear_tells c.args.version c.args.id (Err c.in-Err.fault) _ _ c.ranges.version.fits c.ranges.id.fits c.in-Err.ensures.turn

pub returns-in-Err-clause-counts : goal.returns-in-Err-clause-counts
returns-in-Err-clause-counts g c = rw c.from.ensures (turn_counts _ _ _ _ _ c.in-Err.ensures.learns)
