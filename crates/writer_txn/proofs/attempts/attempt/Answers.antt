use Rattle.std.proofs.Common.{rules, arith, ◌≤◌, ap, subst, length, ℤ, w64, Fits}
use Rattle.std.proofs.lemmas.Int.{to_z-of_z}
use Rattle.std.specs.Prelude.{Err}
use Rattle.reconcile.specs.Replay.{Log}
use Rattle.reconcile.specs.Standing.{StandsFor}
use Rattle.staged_commit.specs.Answers.{IsAppended, IsAppendRefused}
use Rattle.table_model.specs.Knowledge.{Knowledge}
use Rattle.table_model.proofs.Growing.{grows_trans}
use Rattle.writer_txn.specs.Converting.{of_fault}
use Rattle.writer_txn.specs.Counting.{CountsError, CountsFaults}
use Rattle.writer_txn.specs.declared.attempts.Outcome.{Outcome}
use Rattle.writer_txn.specs.Refusing.{of_compose}
use Rattle.writer_txn.specs.Moments.{WrittenNow}
use Rattle.writer_txn.specs.Writing.{WriteStands}
use Rattle.writer_txn.specs.Judging.{GoesFrom}
use Rattle.writer_txn.proofs.Underway.{refused_write, refused_write_now, append_next, append_timed, room_for, written_stands, written_now, full_now, name_taken, attempt_stopped, caught_attempt}
use Rattle.writer_txn.proofs.Faults.{answer_later, of_turn, of_composing}
use Rattle.writer_txn.proofs.Catching.{goes_on, front_longer, full_stands, name_stands, within_limit}
use Rattle.std.proofs.Common.{refl}
use Rattle.log_names.specs.declared.LogName.TheVariants as name
use Rattle.writer_txn.specs.Named.{NamesApart, names_taken}
use Rattle.writer_txn.proofs.Naming.{puts_none, puts_kept, apart_put, apart_taken, apart_at, apart_err, names_of_compose, names_of_fault, names_of_caught}
use Rattle.writer_txn.proofs.attempts.attempt.Goals as goal

pub returns-in-Err-clause-stands : goal.returns-in-Err-clause-stands
returns-in-Err-clause-stands g c =
    let says : (l : Log) → StandsFor c.args.front.state l → IsAppendRefused l c.args.what.now c.next-id.result c.now_ms-now.result c.args.limits.bytes c.in-Err.error = λ l h.
    subst (λ (n : ℤ). IsAppendRefused l c.args.what.now c.next-id.result n c.args.limits.bytes c.in-Err.error) (to_z-of_z w64 c.now_ms-now.result (search rules)) (c.in-Err.ensures.err l h) in
    let i : WriteStands g.T.Steps.tells c.args.what.now (Err (of_compose c.args.front.base c.in-Err.error)) (g.C.Clock.reading c.now_ms-now.new.self) (g.U.Ids.last c.next-id.new.self) (g.T.Steps.known c.args.caller.now).seen =
    rw (c.now_ms-now.ensures.last, c.next-id.ensures.last)
    (refused_write _ _ _ _ _ c.args.limits.bytes _ _ c.requires.front c.in-Err.ensures.limits says) in
    rw c.refused.ensures i

pub returns-in-Err-clause-now : goal.returns-in-Err-clause-now
returns-in-Err-clause-now g c = λ k tried u.
    let i : WrittenNow g.T.Steps.tells (Err (of_compose c.args.front.base c.in-Err.error)) k (g.T.Steps.known c.args.caller.now) =
    refused_write_now _ _ tried _ k _ _ u c.requires.terms c.in-Err.ensures.limits in
    rw c.refused.ensures i

pub overflow_add-version : goal.overflow_add-version
overflow_add-version g c =
    let most : length (g.T.Steps.known c.args.caller.now).seen ≤ c.args.limits.versions = within_limit _ _ _ _ c.requires.terms c.requires.valid.versions in
    let fits : Fits w64 c.args.limits.versions = search rules in
    omega (arith, most, fits, c.requires.newest)

pub propose-requires-clause-next : goal.propose-requires-clause-next
propose-requires-clause-next g c = c.requires.newest

pub propose-requires-clause-commit : goal.propose-requires-clause-commit
propose-requires-clause-commit g c = λ t.
    append_next _ _ _ _ _ _ _ _ c.requires.front c.requires.newest (λ l h. c.in-Ok.ensures.ok l h) t

pub propose-requires-clause-timed : goal.propose-requires-clause-timed
propose-requires-clause-timed g c = λ t.
    append_timed _ _ _ _ _ _ _ _ c.requires.front (λ l h. c.in-Ok.ensures.ok l h) t

pub propose-requires-clause-room : goal.propose-requires-clause-room
propose-requires-clause-room g c = room_for _ _ _ _ c.requires.terms c.requires.roomy

pub returns-in_err-propose-clause-now : goal.returns-in_err-propose-clause-now
returns-in_err-propose-clause-now g c = λ k tried u.
    let i : WrittenNow g.T.Steps.tells (Err (of_fault c.in_err-propose.field-0.0)) k (g.T.Steps.known c.propose.new.caller) =
    attempt_stopped _ _ _ _ _ _ _ u c.in_err-propose.ensures.proposed in
    search rules

pub returns-in-Done-clause-stands : goal.returns-in-Done-clause-stands
returns-in-Done-clause-stands g c =
    let made : (l : Log) → StandsFor c.args.front.state l → IsAppended l c.args.what.now c.next-id.result c.now_ms-now.result c.args.limits.bytes c.in-Ok.commit = λ l h.
    subst (λ (n : ℤ). IsAppended l c.args.what.now c.next-id.result n c.args.limits.bytes c.in-Ok.commit) (to_z-of_z w64 c.now_ms-now.result (search rules)) (c.in-Ok.ensures.ok l h) in
    let h = written_stands _ _ _ _ _ _ _ _ _ c.requires.front c.requires.newest c.in_ok-propose.ensures.grows made (rw c.in-Done.is at c.in_ok-propose.ensures.proposed) in
    rw (c.now_ms-now.ensures.last, c.next-id.ensures.last, to_z-of_z w64 c.in-Ok.commit.time (search rules)) h

pub returns-in-Done-clause-now : goal.returns-in-Done-clause-now
returns-in-Done-clause-now g c = λ k tried u.
    written_now _ _ tried _ _ _ k _ _ u c.in_ok-propose.ensures.grows c.requires.newest (rw c.in-Done.is at c.in_ok-propose.ensures.proposed)

pub returns-in-Full-clause-stands : goal.returns-in-Full-clause-stands
returns-in-Full-clause-stands g c = full_stands _ _ _ _ _ _ _ _ c.requires.front c.requires.newest (rw c.in-Full.is at c.in_ok-propose.ensures.proposed)

pub returns-in-Full-clause-now : goal.returns-in-Full-clause-now
returns-in-Full-clause-now g c = λ k tried u.
    full_now _ tried _ _ _ _ k _ _ u c.in_ok-propose.ensures.grows c.requires.newest (rw c.in-Full.is at c.in_ok-propose.ensures.proposed)

pub caught_up-requires-clause-front : goal.caught_up-requires-clause-front
caught_up-requires-clause-front g c = front_longer _ _ _ _ _ c.in_ok-propose.ensures.grows.seen c.requires.front

pub returns-in-Lost-clause-stands : goal.returns-in-Lost-clause-stands
returns-in-Lost-clause-stands g c = c.caught_up.ensures.stands _ _

pub returns-in-Lost-clause-now : goal.returns-in-Lost-clause-now
returns-in-Lost-clause-now g c = λ k tried u.
    caught_attempt _ _ tried _ _ _ _ k _ _ _ _ u c.in_ok-propose.ensures.grows c.caught_up.ensures.grows c.requires.newest
    (rw c.in-Lost.is at c.in_ok-propose.ensures.proposed) c.caught_up.ensures.own c.caught_up.ensures.caught

pub returns-in-Lost-clause-after : goal.returns-in-Lost-clause-after
returns-in-Lost-clause-after g c = g.met.T.Steps.after_both _ _ _ c.in_ok-propose.ensures.after c.caught_up.ensures.after

pub returns-in-Taken-clause-stands : goal.returns-in-Taken-clause-stands
returns-in-Taken-clause-stands g c =
    let seen = ap (λ (x : Knowledge). x.seen) (rw c.in-Taken.is at c.in_ok-propose.ensures.proposed) in
    rw c.next-id.ensures.last (name_stands g.T.Steps.tells c.args.what.now c.args.front c.next-id.result (g.T.Steps.known c.args.caller.now) (g.T.Steps.known c.propose.new.caller) c.requires.front seen)

pub returns-in-Taken-clause-now : goal.returns-in-Taken-clause-now
returns-in-Taken-clause-now g c = λ k tried u.
    name_taken _ tried _ _ k _ _ u c.in_ok-propose.ensures.grows c.requires.newest (rw c.in-Taken.is at c.in_ok-propose.ensures.proposed)

pub returns-in-Lost-clause-goes : goal.returns-in-Lost-clause-goes
returns-in-Lost-clause-goes g c = goes_on _ _ _ _ _ c.caught_up.ensures.caught

pub returns-in_err-propose-clause-goes : goal.returns-in_err-propose-clause-goes
returns-in_err-propose-clause-goes g c =
    let i : GoesFrom c.args.front.base (Err (of_fault c.in_err-propose.field-0.0)) (g.T.Steps.known c.propose.new.caller) = tt in
    search rules

pub returns-in-Err-clause-names : goal.returns-in-Err-clause-names
returns-in-Err-clause-names g c = λ t.
    let i : NamesApart (g.U.Ids.differ c.args.ids.now) (g.U.Ids.given c.args.ids.now) (g.U.Ids.given c.next-id.new.self) (names_taken (of_compose c.args.front.base c.in-Err.error))
    (g.T.Steps.known c.args.caller.now) (g.T.Steps.known c.args.caller.now) =
    apart_at _ _ _ _ _ _ _ (names_of_compose c.args.front.base c.in-Err.error) (apart_put _ _ 0 c.next-id.result _ _ _ (c.next-id.ensures.new t) (puts_none (name.Staged 0 c.next-id.result) _ _ refl)) in
    rw c.refused.ensures i

pub returns-in_err-propose-clause-names : goal.returns-in_err-propose-clause-names
returns-in_err-propose-clause-names g c = λ t.
    apart_err _ _ _ c.from_residual.result (of_fault c.in_err-propose.field-0.0) _ _ c.from_residual.ensures.1
    (apart_at _ _ _ _ _ _ _ (names_of_fault c.in_err-propose.field-0.0) (apart_put _ _ _ c.next-id.result _ _ _ (c.next-id.ensures.new t) c.in_err-propose.ensures.puts))

pub returns-in-Done-clause-names : goal.returns-in-Done-clause-names
returns-in-Done-clause-names g c = λ t. apart_put _ _ _ c.next-id.result _ _ _ (c.next-id.ensures.new t) c.in_ok-propose.ensures.puts

pub returns-in-Lost-clause-names : goal.returns-in-Lost-clause-names
returns-in-Lost-clause-names g c = λ t.
    apart_at _ _ _ _ _ _ _ (names_of_caught g.T.Steps.tells c.args.front.base c.caught_up.result _ _ c.caught_up.ensures.caught)
    (apart_put _ _ _ c.next-id.result _ _ _ (c.next-id.ensures.new t) (puts_kept _ _ _ _ c.in_ok-propose.ensures.puts c.caught_up.ensures.own.put))

pub returns-in-Full-clause-names : goal.returns-in-Full-clause-names
returns-in-Full-clause-names g c = λ t. apart_put _ _ _ c.next-id.result _ _ _ (c.next-id.ensures.new t) c.in_ok-propose.ensures.puts

pub returns-in-Taken-clause-names : goal.returns-in-Taken-clause-names
returns-in-Taken-clause-names g c = λ t.
    apart_taken _ _ _ c.next-id.result _ _ _ (c.next-id.ensures.new t) (ap (λ (x : Knowledge). x.put) (rw c.in-Taken.is at c.in_ok-propose.ensures.proposed))

pub returns-in-Err-clause-counts : goal.returns-in-Err-clause-counts
returns-in-Err-clause-counts g c =
    let i : CountsFaults {A = Outcome} g.T.Steps.tells (g.T.Steps.known c.args.caller.now) (Err (of_compose c.args.front.base c.in-Err.error)) (g.T.Steps.known c.args.caller.now) =
    of_composing _ c.args.front.base c.in-Err.error (g.T.Steps.known c.args.caller.now) (g.T.Steps.known c.args.caller.now) refl in
    rw c.refused.ensures i

pub returns-in_err-propose-clause-counts : goal.returns-in_err-propose-clause-counts
returns-in_err-propose-clause-counts g c =
    let i : CountsError g.T.Steps.tells (g.T.Steps.known c.args.caller.now) (of_fault c.in_err-propose.field-0.0) (g.T.Steps.known c.propose.new.caller) =
    of_turn _ c.in_err-propose.field-0.0 (g.T.Steps.known c.args.caller.now) (g.T.Steps.known c.propose.new.caller) c.in_err-propose.ensures.counts in
    search rules

pub returns-in-Lost-clause-counts : goal.returns-in-Lost-clause-counts
returns-in-Lost-clause-counts g c =
    answer_later _ _ (g.T.Steps.known c.args.caller.now) (g.T.Steps.known c.propose.new.caller) _ c.in_ok-propose.ensures.counts c.caught_up.ensures.counts

pub returns-in-Lost-clause-grows : goal.returns-in-Lost-clause-grows
returns-in-Lost-clause-grows g c = grows_trans _ _ _ c.in_ok-propose.ensures.grows c.caught_up.ensures.grows
