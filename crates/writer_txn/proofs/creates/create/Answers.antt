use Rattle.std.proofs.Common.{rules, ◌≡◌, ◌∙◌, ap, subst, arith, ℤ}
use Rattle.std.specs.Int.{w64}
use Rattle.std.proofs.lemmas.Int.{to_z-of_z}
use Rattle.std.specs.Prelude.{Err}
use Rattle.staged_commit.proofs.Appends.{create-time}
use Rattle.table_model.specs.Log.{history}
use Rattle.table_model.proofs.Growing.{grows_trans}
use Rattle.writer_txn.specs.Converting.{of_fault}
use Rattle.writer_txn.specs.Counting.{CountsError}
use Rattle.writer_txn.specs.Creating.{CreateStands}
use Rattle.writer_txn.specs.Refusing.{CreateRefused}
use Rattle.writer_txn.specs.Moments.{FindsNone, WrittenNow}
use Rattle.writer_txn.proofs.FirstCommits.{found_none, refused_stands, refused_now, is_next, is_timed, committed_now, taken_now, stopped_now}
use Rattle.log_names.specs.declared.LogName.TheVariants as name
use Rattle.table_model.specs.Knowledge.{Knowledge}
use Rattle.writer_txn.proofs.Faults.{memory_counts, error_later, of_turn, refused_counts}
use Rattle.writer_txn.proofs.Naming.{puts_none, apart_none, apart_put, apart_taken, apart_since, apart_at, apart_err, refused_puts, names_of_fault, names_of_create}
use Rattle.writer_txn.proofs.creates.create.Goals as goal

pub returns-in_err-commit-clause-stands : goal.returns-in_err-commit-clause-stands
returns-in_err-commit-clause-stands g c =
    let refused : CreateRefused c.args.what.now c.next-id.result c.now_ms-now.result c.limits-limits.result.bytes c.in_err-commit.field-0.0 =
    subst (λ (now : ℤ). CreateRefused c.args.what.now c.next-id.result now c.limits-limits.result.bytes c.in_err-commit.field-0.0)
    (to_z-of_z w64 c.now_ms-now.result (search rules)) c.in_err-commit.ensures.err in
    let i : CreateStands g.T.Steps.tells c.args.what.now (Err c.in_err-commit.field-0.0) (g.C.Clock.reading c.now_ms-now.new.self) (g.U.Ids.last c.next-id.new.self) (g.T.Steps.known c.commits.new.self).seen =
    rw (c.now_ms-now.ensures.last, c.next-id.ensures.last)
    (refused_stands g.T.Steps.tells c.args.what.now c.next-id.result c.now_ms-now.result c.limits-limits.result.bytes (g.T.Steps.known c.commits.new.self).seen c.in_err-commit.field-0.0 refused) in
    search rules

pub returns-in_err-commit-clause-now : goal.returns-in_err-commit-clause-now
returns-in_err-commit-clause-now g c =
    let none : FindsNone (g.T.Steps.known c.args.caller.now) (g.T.Steps.known c.commits.new.self) =
    found_none _ _ _ _ c.in_ok-commits.ensures.learns (omega (arith, c.if-commits-gt0.false)) in
    let i : WrittenNow g.T.Steps.tells (Err c.in_err-commit.field-0.0) (g.T.Steps.known c.args.caller.now) (g.T.Steps.known c.commits.new.self) =
    refused_now _ _ _ _ _ _ _ _ none (c.in_ok-commits.ensures.grows.terms ∙ c.limits-limits.ensures.terms) c.in_err-commit.ensures.err in
    search rules

pub propose-requires-clause-commit : goal.propose-requires-clause-commit
propose-requires-clause-commit g c = λ t.
    let none : FindsNone (g.T.Steps.known c.args.caller.now) (g.T.Steps.known c.commits.new.self) =
    found_none _ _ _ _ c.in_ok-commits.ensures.learns (omega (arith, c.if-commits-gt0.false)) in
    is_next _ _ _ _ _ _ (ap history none.none) c.in_ok-commit.ensures.ok

pub propose-requires-clause-timed : goal.propose-requires-clause-timed
propose-requires-clause-timed g c = λ t. is_timed _ _ _ _ _ (create-time _ _ _) c.in_ok-commit.ensures.ok

pub returns-in_err-propose-clause-now : goal.returns-in_err-propose-clause-now
returns-in_err-propose-clause-now g c =
    let none : FindsNone (g.T.Steps.known c.args.caller.now) (g.T.Steps.known c.commits.new.self) =
    found_none _ _ _ _ c.in_ok-commits.ensures.learns (omega (arith, c.if-commits-gt0.false)) in
    let i : WrittenNow g.T.Steps.tells (Err (of_fault c.in_err-propose.field-0.0)) (g.T.Steps.known c.args.caller.now) (g.T.Steps.known c.propose.new.caller) =
    stopped_now _ _ _ _ _ c.in_ok-commits.ensures.grows none.mine c.in_err-propose.ensures.proposed in
    search rules

pub returns-in_err-propose-clause-after : goal.returns-in_err-propose-clause-after
returns-in_err-propose-clause-after g c = g.met.T.Steps.after_both _ _ _ c.in_ok-commits.ensures.after c.in_err-propose.ensures.after

pub returns-in-Done-clause-now : goal.returns-in-Done-clause-now
returns-in-Done-clause-now g c =
    let none : FindsNone (g.T.Steps.known c.args.caller.now) (g.T.Steps.known c.commits.new.self) =
    found_none _ _ _ _ c.in_ok-commits.ensures.learns (omega (arith, c.if-commits-gt0.false)) in
    committed_now _ _ _ _ _ _ none (rw c.in-Done.is at c.in_ok-propose.ensures.proposed)

pub returns-in-Done-clause-after : goal.returns-in-Done-clause-after
returns-in-Done-clause-after g c = g.met.T.Steps.after_both _ _ _ c.in_ok-commits.ensures.after c.in_ok-propose.ensures.after

pub returns-in-Lost-clause-after : goal.returns-in-Lost-clause-after
returns-in-Lost-clause-after g c = g.met.T.Steps.after_both _ _ _ c.in_ok-commits.ensures.after c.in_ok-propose.ensures.after

pub returns-clause-after : goal.returns-clause-after
returns-clause-after g c = g.met.T.Steps.after_both _ _ _ c.in_ok-commits.ensures.after c.in_ok-propose.ensures.after

pub returns-clause-now : goal.returns-clause-now
returns-clause-now g c =
    let none : FindsNone (g.T.Steps.known c.args.caller.now) (g.T.Steps.known c.commits.new.self) =
    found_none _ _ _ _ c.in_ok-commits.ensures.learns (omega (arith, c.if-commits-gt0.false)) in
    taken_now _ _ _ _ _ _ c.in_ok-commits.ensures.learns none (rw c.in-Taken.is at c.in_ok-propose.ensures.proposed)

pub returns-in_err-commits-clause-names : goal.returns-in_err-commits-clause-names
returns-in_err-commits-clause-names g c = λ t.
    apart_err _ _ _ c.from_residual.result (of_fault c.in_err-commits.field-0.0) _ _ c.from_residual.ensures.1
    (apart_at _ _ _ _ _ _ _ (names_of_fault c.in_err-commits.field-0.0) (apart_none _ _ _ _ (refused_puts _ c.in_err-commits.field-0.0 _ c.in_err-commits.ensures.learns) t))

pub returns-then-commits-gt0-clause-names : goal.returns-then-commits-gt0-clause-names
returns-then-commits-gt0-clause-names g c = λ t. apart_none _ _ _ _ (ap (λ (x : Knowledge). x.put) c.in_ok-commits.ensures.learns.same) t

pub returns-in_err-commit-clause-names : goal.returns-in_err-commit-clause-names
returns-in_err-commit-clause-names g c = λ t.
    let refused : CreateRefused c.args.what.now c.next-id.result c.now_ms-now.result c.limits-limits.result.bytes c.in_err-commit.field-0.0 =
    subst (λ (now : ℤ). CreateRefused c.args.what.now c.next-id.result now c.limits-limits.result.bytes c.in_err-commit.field-0.0)
    (to_z-of_z w64 c.now_ms-now.result (search rules)) c.in_err-commit.ensures.err in
    apart_err _ _ _ c.from_residual-in_err-commit.result c.in_err-commit.field-0.0 _ _ c.from_residual-in_err-commit.ensures.1
    (apart_at _ _ _ _ _ _ _ (names_of_create _ _ _ _ c.in_err-commit.field-0.0 refused)
    (apart_put _ _ 0 c.next-id.result _ (g.T.Steps.known c.args.caller.now) (g.T.Steps.known c.commits.new.self) (c.next-id.ensures.new t)
    (puts_none (name.Staged 0 c.next-id.result) (g.T.Steps.known c.args.caller.now) (g.T.Steps.known c.commits.new.self) (ap (λ (x : Knowledge). x.put) c.in_ok-commits.ensures.learns.same))))

pub returns-in_err-propose-clause-names : goal.returns-in_err-propose-clause-names
returns-in_err-propose-clause-names g c = λ t.
    apart_err _ _ _ c.from_residual-in_err-propose.result (of_fault c.in_err-propose.field-0.0) _ _ c.from_residual-in_err-propose.ensures.1
    (apart_since _ _ _ _ (g.T.Steps.known c.args.caller.now) (g.T.Steps.known c.commits.new.self) _ (ap (λ (x : Knowledge). x.put) c.in_ok-commits.ensures.learns.same)
    (apart_at _ _ _ _ _ _ _ (names_of_fault c.in_err-propose.field-0.0) (apart_put _ _ _ c.next-id.result _ _ _ (c.next-id.ensures.new t) c.in_err-propose.ensures.puts)))

pub returns-in-Done-clause-names : goal.returns-in-Done-clause-names
returns-in-Done-clause-names g c = λ t.
    apart_since _ _ _ _ (g.T.Steps.known c.args.caller.now) (g.T.Steps.known c.commits.new.self) _ (ap (λ (x : Knowledge). x.put) c.in_ok-commits.ensures.learns.same)
    (apart_put _ _ _ c.next-id.result _ _ _ (c.next-id.ensures.new t) c.in_ok-propose.ensures.puts)

pub returns-in-Lost-clause-names : goal.returns-in-Lost-clause-names
returns-in-Lost-clause-names g c = λ t.
    apart_since _ _ _ _ (g.T.Steps.known c.args.caller.now) (g.T.Steps.known c.commits.new.self) _ (ap (λ (x : Knowledge). x.put) c.in_ok-commits.ensures.learns.same)
    (apart_put _ _ _ c.next-id.result _ _ _ (c.next-id.ensures.new t) c.in_ok-propose.ensures.puts)

pub returns-clause-names : goal.returns-clause-names
returns-clause-names g c = λ t.
    apart_since _ _ _ _ (g.T.Steps.known c.args.caller.now) (g.T.Steps.known c.commits.new.self) _ (ap (λ (x : Knowledge). x.put) c.in_ok-commits.ensures.learns.same)
    (apart_taken _ _ _ c.next-id.result _ (g.T.Steps.known c.commits.new.self) (g.T.Steps.known c.propose.new.caller) (c.next-id.ensures.new t)
    (ap (λ (x : Knowledge). x.put) (rw c.in-Taken.is at c.in_ok-propose.ensures.proposed)))

pub returns-in_err-commits-clause-counts : goal.returns-in_err-commits-clause-counts
returns-in_err-commits-clause-counts g c =
    let i : CountsError g.T.Steps.tells (g.T.Steps.known c.args.caller.now) (of_fault c.in_err-commits.field-0.0) (g.T.Steps.known c.commits.new.self) =
    of_turn _ c.in_err-commits.field-0.0 (g.T.Steps.known c.args.caller.now) (g.T.Steps.known c.commits.new.self)
    (memory_counts (g.T.Steps.known c.args.caller.now) c.in_err-commits.field-0.0 (g.T.Steps.known c.commits.new.self) c.in_err-commits.ensures.learns) in
    search rules

pub returns-then-commits-gt0-clause-counts : goal.returns-then-commits-gt0-clause-counts
returns-then-commits-gt0-clause-counts g c = ap (λ (x : Knowledge). x.faults) c.in_ok-commits.ensures.learns.same

pub returns-in_err-commit-clause-counts : goal.returns-in_err-commit-clause-counts
returns-in_err-commit-clause-counts g c =
    let i : CountsError g.T.Steps.tells (g.T.Steps.known c.args.caller.now) c.in_err-commit.field-0.0 (g.T.Steps.known c.commits.new.self) =
    refused_counts _ _ _ _ _ _ (g.T.Steps.known c.args.caller.now) (g.T.Steps.known c.commits.new.self) c.in_err-commit.ensures.err
    (ap (λ (x : Knowledge). x.faults) c.in_ok-commits.ensures.learns.same) in
    search rules

pub returns-in_err-propose-clause-counts : goal.returns-in_err-propose-clause-counts
returns-in_err-propose-clause-counts g c =
    let asked : (g.T.Steps.known c.commits.new.self).faults ≡ (g.T.Steps.known c.args.caller.now).faults = ap (λ (x : Knowledge). x.faults) c.in_ok-commits.ensures.learns.same in
    let i : CountsError g.T.Steps.tells (g.T.Steps.known c.args.caller.now) (of_fault c.in_err-propose.field-0.0) (g.T.Steps.known c.propose.new.caller) =
    error_later _ _ (g.T.Steps.known c.args.caller.now) (g.T.Steps.known c.commits.new.self) _ asked
    (of_turn _ c.in_err-propose.field-0.0 (g.T.Steps.known c.commits.new.self) (g.T.Steps.known c.propose.new.caller) c.in_err-propose.ensures.counts) in
    search rules

pub returns-in-Done-clause-counts : goal.returns-in-Done-clause-counts
returns-in-Done-clause-counts g c =
    let asked : (g.T.Steps.known c.commits.new.self).faults ≡ (g.T.Steps.known c.args.caller.now).faults = ap (λ (x : Knowledge). x.faults) c.in_ok-commits.ensures.learns.same in
    c.in_ok-propose.ensures.counts ∙ asked

pub returns-in-Lost-clause-counts : goal.returns-in-Lost-clause-counts
returns-in-Lost-clause-counts g c =
    let asked : (g.T.Steps.known c.commits.new.self).faults ≡ (g.T.Steps.known c.args.caller.now).faults = ap (λ (x : Knowledge). x.faults) c.in_ok-commits.ensures.learns.same in
    c.in_ok-propose.ensures.counts ∙ asked

pub returns-clause-counts : goal.returns-clause-counts
returns-clause-counts g c =
    let asked : (g.T.Steps.known c.commits.new.self).faults ≡ (g.T.Steps.known c.args.caller.now).faults = ap (λ (x : Knowledge). x.faults) c.in_ok-commits.ensures.learns.same in
    c.in_ok-propose.ensures.counts ∙ asked

pub returns-in_err-propose-clause-grows : goal.returns-in_err-propose-clause-grows
returns-in_err-propose-clause-grows g c = grows_trans _ _ _ c.in_ok-commits.ensures.grows c.in_err-propose.ensures.grows

pub returns-in-Done-clause-grows : goal.returns-in-Done-clause-grows
returns-in-Done-clause-grows g c = grows_trans _ _ _ c.in_ok-commits.ensures.grows c.in_ok-propose.ensures.grows

pub returns-in-Lost-clause-grows : goal.returns-in-Lost-clause-grows
returns-in-Lost-clause-grows g c = grows_trans _ _ _ c.in_ok-commits.ensures.grows c.in_ok-propose.ensures.grows
