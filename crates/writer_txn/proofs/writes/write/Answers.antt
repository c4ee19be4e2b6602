use Rattle.std.proofs.Common.{rules, ◌∙◌, ◌≤◌, refl, sym, subst, ℤ, w64}
use Rattle.std.proofs.lemmas.Int.{to_z-of_z}
use Rattle.std.specs.Prelude.{Err, Option, IfSome}
use Rattle.table_model.specs.Knowledge.{Terms}
use Rattle.table_model.proofs.Growing.{grows_refl, grows_trans}
use Rattle.writer_txn.specs.Converting.{of_load}
use Rattle.writer_txn.specs.Counting.{CountsError}
use Rattle.writer_txn.specs.Moments.{WrittenNow}
use Rattle.writer_txn.specs.Writing.{WriteStands, IsAlready}
use Rattle.writer_txn.proofs.Underway.{latest_now}
use Rattle.writer_txn.proofs.Beginnings.{loaded_front, loaded_already, loaded_underway, load_refused_stands, load_refused_now}
use Rattle.std.proofs.Common.{ap}
use Rattle.table_model.specs.Knowledge.{Knowledge}
use Rattle.writer_txn.proofs.Faults.{answer_later, of_loading}
use Rattle.writer_txn.proofs.Naming.{apart_none, apart_since, apart_at, apart_err, names_of_load}
use Rattle.writer_txn.proofs.writes.write.Goals as goal

pub returns-in_err-snapshot-clause-stands : goal.returns-in_err-snapshot-clause-stands
returns-in_err-snapshot-clause-stands g c =
    let i : WriteStands g.T.Steps.tells c.args.what.now (Err (of_load c.in_err-snapshot.field-0.0)) (g.C.Clock.reading c.args.clock.now) (g.U.Ids.last c.args.ids.now) (g.T.Steps.known c.load.new.caller).seen =
    load_refused_stands g.T.Steps.tells c.args.what.now c.in_err-snapshot.field-0.0 (g.C.Clock.reading c.args.clock.now) (g.U.Ids.last c.args.ids.now) (g.T.Steps.known c.load.new.caller).seen in
    search rules

pub returns-in_err-snapshot-clause-now : goal.returns-in_err-snapshot-clause-now
returns-in_err-snapshot-clause-now g c =
    let i : WrittenNow g.T.Steps.tells (Err (of_load c.in_err-snapshot.field-0.0)) (g.T.Steps.known c.args.caller.now) (g.T.Steps.known c.load.new.caller) =
    load_refused_now _ _ _ _ _ _ c.in_err-snapshot.ensures.cause c.in_err-snapshot.ensures.asked c.in_err-snapshot.ensures.turns c.in_err-snapshot.ensures.grows in
    search rules

pub returns-in-Some-clause-stands : goal.returns-in-Some-clause-stands
returns-in-Some-clause-stands g c =
    subst (λ (n : ℤ). IsAlready g.T.Steps.tells c.args.what.now n c.in_ok-snapshot.snapshot.latest (g.T.Steps.known c.load.new.caller).seen) (sym (to_z-of_z w64 c.in-Some.recorded (search rules)))
    (loaded_already _ _ _ _ _ c.in_ok-snapshot.ensures.loaded c.in_ok-snapshot.ensures.newest c.in-Some.ensures)

pub returns-in-Some-clause-now : goal.returns-in-Some-clause-now
returns-in-Some-clause-now g c =
    let last = c.in_ok-snapshot.ensures.loaded.latest in
    latest_now _ 0 _ _ _ _ (loaded_underway _ _ c.in_ok-snapshot.snapshot.latest _ _ c.in_ok-snapshot.ensures.asked c.in_ok-snapshot.ensures.turns c.in_ok-snapshot.ensures.grows last) (grows_refl _) refl last

pub attempts-requires-clause-terms : goal.attempts-requires-clause-terms
attempts-requires-clause-terms g c = c.in_ok-snapshot.ensures.grows.terms ∙ c.limits-limits.ensures.terms

pub attempts-requires-clause-roomy : goal.attempts-requires-clause-roomy
attempts-requires-clause-roomy g c = subst (λ (o : Option Terms). IfSome o (λ t. t.limits.versions ≤ t.limits.unpublished)) c.limits-limits.ensures.terms c.requires.roomy

pub attempts-requires-clause-front : goal.attempts-requires-clause-front
attempts-requires-clause-front g c = loaded_front _ _ _ _ c.in_ok-snapshot.ensures.loaded c.in_ok-snapshot.ensures.newest c.in_default.ensures

pub attempts-requires-clause-newest : goal.attempts-requires-clause-newest
attempts-requires-clause-newest g c = c.in_ok-snapshot.ensures.loaded.latest

pub returns-clause-now : goal.returns-clause-now
returns-clause-now g c =
    c.attempts.ensures.now _
    (loaded_underway _ _ c.in_ok-snapshot.snapshot.latest _ _ c.in_ok-snapshot.ensures.asked c.in_ok-snapshot.ensures.turns c.in_ok-snapshot.ensures.grows c.in_ok-snapshot.ensures.loaded.latest)

pub returns-clause-after : goal.returns-clause-after
returns-clause-after g c = g.met.T.Steps.after_both _ _ _ c.in_ok-snapshot.ensures.after c.attempts.ensures.after

pub returns-in_err-snapshot-clause-names : goal.returns-in_err-snapshot-clause-names
returns-in_err-snapshot-clause-names g c = λ t.
    apart_err _ _ _ c.from_residual.result (of_load c.in_err-snapshot.field-0.0) _ _ c.from_residual.ensures.1
    (apart_at _ _ _ _ _ _ _ (names_of_load c.in_err-snapshot.field-0.0) (apart_none _ _ _ _ (ap (λ (x : Knowledge). x.put) c.in_err-snapshot.ensures.turns.same) t))

pub returns-in-Some-clause-names : goal.returns-in-Some-clause-names
returns-in-Some-clause-names g c = λ t. apart_none _ _ _ _ (ap (λ (x : Knowledge). x.put) c.in_ok-snapshot.ensures.turns.same) t

pub returns-clause-names : goal.returns-clause-names
returns-clause-names g c = λ t. apart_since _ _ _ _ _ _ _ (ap (λ (x : Knowledge). x.put) c.in_ok-snapshot.ensures.turns.same) (c.attempts.ensures.names t)

pub returns-in_err-snapshot-clause-counts : goal.returns-in_err-snapshot-clause-counts
returns-in_err-snapshot-clause-counts g c =
    let i : CountsError g.T.Steps.tells (g.T.Steps.known c.args.caller.now) (of_load c.in_err-snapshot.field-0.0) (g.T.Steps.known c.load.new.caller) =
    of_loading _ c.in_err-snapshot.field-0.0 (g.T.Steps.known c.args.caller.now) (g.T.Steps.known c.load.new.caller) c.in_err-snapshot.ensures.counts in
    search rules

pub returns-clause-counts : goal.returns-clause-counts
returns-clause-counts g c =
    answer_later _ _ (g.T.Steps.known c.args.caller.now) (g.T.Steps.known c.load.new.caller) _ c.in_ok-snapshot.ensures.counts c.attempts.ensures.counts

pub returns-clause-grows : goal.returns-clause-grows
returns-clause-grows g c = grows_trans _ _ _ c.in_ok-snapshot.ensures.grows c.attempts.ensures.grows
