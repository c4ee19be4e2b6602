use Rattle.std.proofs.Common.{◌≡◌, ap, arith}
use Rattle.std.specs.Prelude.{Ok, Err}
use Rattle.log_names.specs.declared.LogName.TheVariants as name
use Rattle.publisher.proofs.Causing.{turn_refused, cause_later, answer_later}
use Rattle.publisher.proofs.Faults.{turn_counts, error_counts, answer_counts, get_counts}
use Rattle.publisher.proofs.Telling.{copied_tells, found_tells, got_tells, put_there_tells}
use Rattle.table_model.specs.Knowledge.{Knowledge}
use Rattle.publisher.proofs.Keeping.{keeps_none, keeps_then, staged_keeps, staged_then, fault_kept}
use Rattle.publisher.proofs.publishing.publish_version.Goals as goal

pub returns-in-Ok-clause-world : goal.returns-in-Ok-clause-world
returns-in-Ok-clause-world g c =
    copied_tells _ _ c.in-Ok-Whole.bytes c.as_slice.result.now (Ok c.in-Ok.field-0) _ _ _ c.ranges.version.fits c.as_slice.ensures.value
    (rw c.in-Ok-Whole.field-0-is at c.in-Ok-Whole.ensures.turn) c.in-Ok.ensures.turn

pub returns-in-Ok-clause-there : goal.returns-in-Ok-clause-there
returns-in-Ok-clause-there g c = put_there_tells _ c.as_slice.result.now c.in-Ok.field-0 _ _ c.ranges.version.fits c.in-Ok.ensures.turn

pub returns-in-Ok-Whole-clause-cause : goal.returns-in-Ok-Whole-clause-cause
returns-in-Ok-Whole-clause-cause g c =
    rw c.from.ensures (cause_later _ _ _ _ _ c.in-Ok-Whole.ensures.grows (turn_refused _ _ _ _ _ c.in-Err-publish.ensures.learns))

pub returns-in-Ok-Whole-clause-world : goal.returns-in-Ok-Whole-clause-world
returns-in-Ok-Whole-clause-world g c =
    copied_tells _ _ c.in-Ok-Whole.bytes c.as_slice.result.now (Err c.in-Err-publish.fault) _ _ _ c.ranges.version.fits c.as_slice.ensures.value
    (rw c.in-Ok-Whole.field-0-is at c.in-Ok-Whole.ensures.turn) c.in-Err-publish.ensures.turn

pub returns-in-Ok-Absent-clause-cause : goal.returns-in-Ok-Absent-clause-cause
returns-in-Ok-Absent-clause-cause g c = answer_later _ _ _ _ _ c.in-Ok-Absent.ensures.grows c.find_published.ensures.cause

pub returns-in-Ok-Absent-clause-world : goal.returns-in-Ok-Absent-clause-world
returns-in-Ok-Absent-clause-world g c = found_tells _ _ (name.Staged c.args.version c.args.id) (Ok c.in-Ok-Absent.field-0) _ _ _ c.in-Ok-Absent.ensures.turn c.find_published.ensures.world

pub returns-clause-cause : goal.returns-clause-cause
returns-clause-cause g c = rw c.from-in-Err.ensures (turn_refused _ _ _ _ _ c.in-Err.ensures.learns)

pub returns-clause-world : goal.returns-clause-world
returns-clause-world g c = got_tells _ _ (name.Staged c.args.version c.args.id) (Err c.in-Err.fault) _ _ c.in-Err.ensures.turn

pub returns-in-Ok-Whole-clause-counts : goal.returns-in-Ok-Whole-clause-counts
returns-in-Ok-Whole-clause-counts g c =
    let read : (g.T.Steps.known c.get.new.self).faults ≡ (g.T.Steps.known c.args.caller.now).faults = get_counts _ _ _ _ _ c.in-Ok-Whole.ensures.learns in
    rw c.from.ensures (error_counts _ _ (g.T.Steps.known c.args.caller.now) (g.T.Steps.known c.get.new.self) _ read (turn_counts _ _ _ _ _ c.in-Err-publish.ensures.learns))

pub returns-in-Ok-Absent-clause-counts : goal.returns-in-Ok-Absent-clause-counts
returns-in-Ok-Absent-clause-counts g c =
    let read : (g.T.Steps.known c.get.new.self).faults ≡ (g.T.Steps.known c.args.caller.now).faults = get_counts _ _ _ _ _ c.in-Ok-Absent.ensures.learns in
    answer_counts _ _ (g.T.Steps.known c.args.caller.now) (g.T.Steps.known c.get.new.self) _ read c.find_published.ensures.counts

pub returns-clause-counts : goal.returns-clause-counts
returns-clause-counts g c = rw c.from-in-Err.ensures (turn_counts _ _ _ _ _ c.in-Err.ensures.learns)

pub returns-in-Ok-clause-kept : goal.returns-in-Ok-clause-kept
returns-in-Ok-clause-kept g c =
    keeps_then _ _ _ _ _ (omega arith) (staged_keeps _ _ _ _ _ _ _ c.requires.ratified c.in-Ok-Whole.ensures.learns) (ap (λ (x : Knowledge). x.kept) c.in-Ok.ensures.learns.same)

pub returns-in-Ok-Whole-clause-kept : goal.returns-in-Ok-Whole-clause-kept
returns-in-Ok-Whole-clause-kept g c =
    keeps_then _ _ _ _ _ (omega arith) (staged_keeps _ _ _ _ _ _ _ c.requires.ratified c.in-Ok-Whole.ensures.learns) (fault_kept _ _ _ _ c.in-Err-publish.ensures.learns)

pub returns-in-Ok-Absent-clause-kept : goal.returns-in-Ok-Absent-clause-kept
returns-in-Ok-Absent-clause-kept g c = staged_then _ _ _ _ _ _ _ c.requires.ratified c.in-Ok-Absent.ensures.learns c.find_published.ensures.kept

pub returns-clause-kept : goal.returns-clause-kept
returns-clause-kept g c = keeps_none _ _ _ (fault_kept _ _ _ _ c.in-Err.ensures.learns)
