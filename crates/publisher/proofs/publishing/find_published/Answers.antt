use Rattle.publisher.proofs.Causing.{turn_refused}
use Rattle.publisher.proofs.Faults.{turn_counts}
use Rattle.publisher.proofs.Keeping.{keeps_none, published_keeps, fault_kept}
use Rattle.publisher.proofs.publishing.find_published.Goals as goal

pub returns-clause-cause : goal.returns-clause-cause
returns-clause-cause g c = rw c.from.ensures (turn_refused _ _ _ _ _ c.in-Err.ensures.learns)

pub returns-clause-counts : goal.returns-clause-counts
returns-clause-counts g c = rw c.from.ensures (turn_counts _ _ _ _ _ c.in-Err.ensures.learns)

pub returns-in-Ok-Whole-clause-kept : goal.returns-in-Ok-Whole-clause-kept
returns-in-Ok-Whole-clause-kept g c = published_keeps _ _ _ _ _ _ c.in-Ok-Whole.ensures.learns

pub returns-in-Ok-Absent-clause-kept : goal.returns-in-Ok-Absent-clause-kept
returns-in-Ok-Absent-clause-kept g c = published_keeps _ _ _ _ _ _ c.in-Ok-Absent.ensures.learns

pub returns-clause-kept : goal.returns-clause-kept
returns-clause-kept g c = keeps_none _ _ _ (fault_kept _ _ _ _ c.in-Err.ensures.learns)
