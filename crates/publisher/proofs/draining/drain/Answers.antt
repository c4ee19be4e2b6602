use Rattle.std.proofs.Common.{inl, ap}
use Rattle.table_model.specs.Knowledge.{Knowledge}
use Rattle.publisher.proofs.Causing.{failed_later, seen_more}
use Rattle.publisher.proofs.Asking.{asks_twice, none_seen}
use Rattle.publisher.proofs.Keeping.{keeps_then}
use Rattle.publisher.proofs.draining.drain.Goals as goal

pub returns-in-Err-NoTable-clause-empty : goal.returns-in-Err-NoTable-clause-empty
returns-in-Err-NoTable-clause-empty g c = λ none. (rw c.in-Err-NoTable.field-0-is at c.in-Err-NoTable.ensures.cause).only

pub returns-in-Err-Fault-clear_all-clause-cause : goal.returns-in-Err-Fault-clear_all-clause-cause
returns-in-Err-Fault-clear_all-clause-cause g c =
    let cause = rw c.in-Err-Fault-clear_all.field-0-is at c.in-Err-Fault-clear_all.ensures.cause in
    (inl (failed_later _ _ _ _ c.in-Ok.ensures.grows cause.0), cause.1)

pub returns-in-Ok-clear_all-clause-kept : goal.returns-in-Ok-clear_all-clause-kept
returns-in-Ok-clear_all-clause-kept g c =
    keeps_then _ _ _ _ _ (seen_more _ _ c.clear_all.ensures.grows) c.in-Ok.ensures.kept (ap (λ (x : Knowledge). x.kept) c.clear_all.ensures.turns.same)

pub returns-in-Err-NoTable-clear_all-clause-kept : goal.returns-in-Err-NoTable-clear_all-clause-kept
returns-in-Err-NoTable-clear_all-clause-kept g c =
    keeps_then _ _ _ _ _ (seen_more _ _ c.clear_all.ensures.grows) c.in-Ok.ensures.kept (ap (λ (x : Knowledge). x.kept) c.clear_all.ensures.turns.same)

pub returns-in-Err-Fault-clear_all-clause-kept : goal.returns-in-Err-Fault-clear_all-clause-kept
returns-in-Err-Fault-clear_all-clause-kept g c =
    keeps_then _ _ _ _ _ (seen_more _ _ c.clear_all.ensures.grows) c.in-Ok.ensures.kept (ap (λ (x : Knowledge). x.kept) c.clear_all.ensures.turns.same)

pub returns-in-Err-Memory-clear_all-clause-kept : goal.returns-in-Err-Memory-clear_all-clause-kept
returns-in-Err-Memory-clear_all-clause-kept g c =
    keeps_then _ _ _ _ _ (seen_more _ _ c.clear_all.ensures.grows) c.in-Ok.ensures.kept (ap (λ (x : Knowledge). x.kept) c.clear_all.ensures.turns.same)

pub returns-in-Ok-clear_all-clause-asked : goal.returns-in-Ok-clear_all-clause-asked
returns-in-Ok-clear_all-clause-asked g c = λ some. asks_twice _ _ _ c.in-Ok.ensures.asked c.in-Ok-clear_all.ensures.asked

pub returns-in-Err-NoTable-clause-asked : goal.returns-in-Err-NoTable-clause-asked
returns-in-Err-NoTable-clause-asked g c = λ some. none_seen _ _ (rw c.in-Err-NoTable.field-0-is at c.in-Err-NoTable.ensures.cause).empty some

pub returns-in-Err-NoTable-clear_all-clause-asked : goal.returns-in-Err-NoTable-clear_all-clause-asked
returns-in-Err-NoTable-clear_all-clause-asked g c =
    λ some. none_seen _ _ (rw c.in-Err-NoTable-clear_all.field-0-is at c.in-Err-NoTable-clear_all.ensures.cause).empty some
