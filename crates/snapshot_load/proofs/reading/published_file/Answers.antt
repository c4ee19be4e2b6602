use Rattle.std.proofs.Common.{inr, ap}
use Rattle.table_model.specs.Knowledge.{Knowledge}
use Rattle.snapshot_load.proofs.Causing.{read_refused, untold_file}
use Rattle.snapshot_load.proofs.Faults.{turn_counts, whole_counts}
use Rattle.snapshot_load.proofs.Keeping.{reads_published, reads_absent, reads_fault}
use Rattle.snapshot_load.proofs.reading.published_file.Goals as goal

pub returns-in-Ok-Whole-clause-reads : goal.returns-in-Ok-Whole-clause-reads
returns-in-Ok-Whole-clause-reads g c =
    let learnt = rw c.in-Ok-Whole.field-0-is at c.in-Ok-Whole.ensures.learns in
    reads_published _ _ _ _ _ learnt

pub returns-in-Ok-Absent-clause-reads : goal.returns-in-Ok-Absent-clause-reads
returns-in-Ok-Absent-clause-reads g c =
    let learnt = rw c.in-Ok-Absent.field-0-is at c.in-Ok-Absent.ensures.learns in
    reads_absent _ _ _ _ learnt

pub returns-in-Err-clause-reads : goal.returns-in-Err-clause-reads
returns-in-Err-clause-reads g c = reads_fault _ _ _ _ c.in-Err.ensures.learns

pub returns-in-Ok-Absent-clause-cause : goal.returns-in-Ok-Absent-clause-cause
returns-in-Ok-Absent-clause-cause g c =
    let learnt = rw c.in-Ok-Absent.field-0-is at c.in-Ok-Absent.ensures.learns in
    inr (untold_file _ _ _ _ c.requires.ratified c.requires.published learnt)

pub returns-in-Err-clause-cause : goal.returns-in-Err-clause-cause
returns-in-Err-clause-cause g c = rw c.from.ensures (read_refused _ _ _ _ _ c.in-Err.ensures.learns)

pub returns-in-Ok-Whole-clause-counts : goal.returns-in-Ok-Whole-clause-counts
returns-in-Ok-Whole-clause-counts g c =
    let learnt = rw c.in-Ok-Whole.field-0-is at c.in-Ok-Whole.ensures.learns in
    whole_counts _ _ _ _ _ learnt

pub returns-in-Ok-Absent-clause-counts : goal.returns-in-Ok-Absent-clause-counts
returns-in-Ok-Absent-clause-counts g c =
    let learnt = rw c.in-Ok-Absent.field-0-is at c.in-Ok-Absent.ensures.learns in
    let lacks = untold_file _ _ _ _ c.requires.ratified c.requires.published learnt in
    inr (lacks.untold, ap (λ (k : Knowledge). k.faults) learnt.same)

pub returns-in-Err-clause-counts : goal.returns-in-Err-clause-counts
returns-in-Err-clause-counts g c = rw c.from.ensures (turn_counts _ _ _ _ _ c.in-Err.ensures.learns)
