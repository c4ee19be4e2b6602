use Rattle.snapshot_load.proofs.Causing.{read_refused, answer_later}
use Rattle.std.proofs.Common.{◌≡◌, ap, arith}
use Rattle.table_model.specs.Knowledge.{Knowledge}
use Rattle.snapshot_load.proofs.Faults.{turn_counts, whole_counts, answer_counts}
use Rattle.snapshot_load.proofs.Keeping.{reads_staged, reads_absent, reads_fault, reads_up}
use Rattle.snapshot_load.proofs.Replaying.{reads_more}
use Rattle.snapshot_load.proofs.reading.staged_file.Goals as goal

pub returns-in-Ok-Whole-clause-reads : goal.returns-in-Ok-Whole-clause-reads
returns-in-Ok-Whole-clause-reads g c =
    let learnt = rw c.in-Ok-Whole.field-0-is at c.in-Ok-Whole.ensures.learns in
    reads_up _ _ _ _ (omega arith) (reads_staged _ _ _ _ _ _ c.requires.ratified learnt)

pub returns-in-Ok-Absent-clause-reads : goal.returns-in-Ok-Absent-clause-reads
returns-in-Ok-Absent-clause-reads g c =
    let learnt = rw c.in-Ok-Absent.field-0-is at c.in-Ok-Absent.ensures.learns in
    reads_more 1 1 _ _ _ (reads_absent _ _ _ _ learnt) c.published_file.ensures.reads

pub returns-in-Err-clause-reads : goal.returns-in-Err-clause-reads
returns-in-Err-clause-reads g c = reads_up 1 _ _ _ (omega arith) (reads_fault _ _ _ _ c.in-Err.ensures.learns)

pub returns-in-Ok-Absent-clause-cause : goal.returns-in-Ok-Absent-clause-cause
returns-in-Ok-Absent-clause-cause g c = answer_later _ _ _ _ _ c.in-Ok-Absent.ensures.grows c.published_file.ensures.cause

pub returns-in-Err-clause-cause : goal.returns-in-Err-clause-cause
returns-in-Err-clause-cause g c = rw c.from.ensures (read_refused _ _ _ _ _ c.in-Err.ensures.learns)

pub returns-in-Ok-Whole-clause-counts : goal.returns-in-Ok-Whole-clause-counts
returns-in-Ok-Whole-clause-counts g c =
    let learnt = rw c.in-Ok-Whole.field-0-is at c.in-Ok-Whole.ensures.learns in
    whole_counts _ _ _ _ _ learnt

pub returns-in-Ok-Absent-clause-counts : goal.returns-in-Ok-Absent-clause-counts
returns-in-Ok-Absent-clause-counts g c =
    let learnt = rw c.in-Ok-Absent.field-0-is at c.in-Ok-Absent.ensures.learns in
    let read : (g.T.Steps.known c.get.new.self).faults ≡ (g.T.Steps.known c.args.caller.now).faults = ap (λ (k : Knowledge). k.faults) learnt.same in
    answer_counts _ _ (g.T.Steps.known c.args.caller.now) (g.T.Steps.known c.get.new.self) _ read c.published_file.ensures.counts

pub returns-in-Err-clause-counts : goal.returns-in-Err-clause-counts
returns-in-Err-clause-counts g c = rw c.from.ensures (turn_counts _ _ _ _ _ c.in-Err.ensures.learns)
