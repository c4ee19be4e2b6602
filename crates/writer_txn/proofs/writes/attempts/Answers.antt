use Rattle.std.proofs.Common.{rules, arith, ◌∙◌, ◌+◌, [], refl}
use Rattle.std.specs.Prelude.{Err}
use Rattle.table_model.proofs.Growing.{grows_refl, grows_trans}
use Rattle.writer_txn.specs.Counting.{CountsError}
use Rattle.writer_txn.specs.Moments.{WrittenNow}
use Rattle.writer_txn.specs.Named.{names_taken}
use Rattle.writer_txn.proofs.Faults.{error_later}
use Rattle.writer_txn.proofs.Naming.{apart_none, apart_both, apart_err}
use Rattle.writer_txn.proofs.Underway.{next_attempt, same_base, first_attempt, contended_now}
use Rattle.writer_txn.proofs.writes.attempts.Goals as goal

pub loop-tried-init : goal.loop-tried-init
loop-tried-init g c = record {
  front = c.requires.front;
  newest = c.requires.newest;
  base = refl;
  underway = λ k u. first_attempt _ _ _ c.requires.newest u;
  faults = refl;
  steady = λ t. refl;
  names = λ t. apart_none _ _ _ _ refl t;
  grows = grows_refl _;
  valid = c.requires.valid;
  after = g.met.T.Steps.after_same _;
}

pub loop-tried-preserved : goal.loop-tried-preserved
loop-tried-preserved g c =
    let next = rw c.in-Lost.is at c.in_ok-written.ensures.goes in
    record {
      front = rw c.in-Lost.is at c.in_ok-written.ensures.stands;
      newest = next.newest;
      base = next.base_is ∙ c.loop-tried.invariant.base;
      underway = λ k u.
          (let now = c.in_ok-written.ensures.now k c.loop-tried.tried (next_attempt c.args.front.base c.loop-tried.tried c.loop-tried.front k (g.T.Steps.known c.loop-tried.caller) (c.loop-tried.invariant.underway k u)) in
          same_base c.args.front.base (c.loop-tried.tried + 1) c.loop-tried.front c.in-Lost.next k (g.T.Steps.known c.attempt.new.caller) c.loop-tried.invariant.base (rw c.in-Lost.is at now));
      faults = c.in_ok-written.ensures.counts ∙ c.loop-tried.invariant.faults;
      steady = λ t. c.in_ok-written.ensures.steady t ∙ c.loop-tried.invariant.steady t;
      names = λ t. (let now = c.in_ok-written.ensures.names t in apart_both _ _ _ _ _ [] [] _ _ _ (c.loop-tried.invariant.names now.before) now);
      grows = grows_trans _ _ _ c.loop-tried.invariant.grows c.in_ok-written.ensures.grows;
      valid = c.in_ok-written.ensures.valid;
      after = g.met.T.Steps.after_both _ _ _ c.loop-tried.invariant.after c.in_ok-written.ensures.after;
    }

pub returns-in_err-written-clause-now : goal.returns-in_err-written-clause-now
returns-in_err-written-clause-now g c = λ k u.
    let i : WrittenNow g.T.Steps.tells (Err c.in_err-written.field-0.0) k (g.T.Steps.known c.attempt.new.caller) =
    c.in_err-written.ensures.now k c.loop-tried.tried (next_attempt c.args.front.base c.loop-tried.tried c.loop-tried.front k (g.T.Steps.known c.loop-tried.caller) (c.loop-tried.invariant.underway k u)) in
    search rules

pub returns-in-Answered-clause-now : goal.returns-in-Answered-clause-now
returns-in-Answered-clause-now g c = λ k u.
    let now = c.in_ok-written.ensures.now k c.loop-tried.tried (next_attempt c.args.front.base c.loop-tried.tried c.loop-tried.front k (g.T.Steps.known c.loop-tried.caller) (c.loop-tried.invariant.underway k u)) in
    rw c.in-Answered.is at now

pub returns-clause-now : goal.returns-clause-now
returns-clause-now g c = λ k u.
    contended_now c.args.front.base c.loop-tried.tried c.args.limits.attempts c.args.limits g.T.Steps.tells c.loop-tried.front k (g.T.Steps.known c.loop-tried.caller)
    (c.loop-tried.invariant.underway k u) (c.loop-tried.invariant.grows.terms ∙ c.requires.terms) (omega (arith, c.loop-tried-test.false, c.loop-tried.auto.tried-end))

pub returns-in_err-written-clause-names : goal.returns-in_err-written-clause-names
returns-in_err-written-clause-names g c = λ t.
    let now = c.in_err-written.ensures.names t in
    apart_err _ _ _ c.from_residual.result c.in_err-written.field-0.0 _ _ c.from_residual.ensures.1
    (apart_both _ _ _ _ _ [] (names_taken c.in_err-written.field-0.0) _ _ _ (c.loop-tried.invariant.names now.before) now)

pub returns-in-Answered-clause-names : goal.returns-in-Answered-clause-names
returns-in-Answered-clause-names g c = λ t.
    let now = c.in_ok-written.ensures.names t in
    apart_both _ _ _ _ _ [] [] _ _ _ (c.loop-tried.invariant.names now.before) now

pub returns-clause-names : goal.returns-clause-names
returns-clause-names g c = λ t. c.loop-tried.invariant.names t

pub returns-in_err-written-clause-counts : goal.returns-in_err-written-clause-counts
returns-in_err-written-clause-counts g c =
    let i : CountsError g.T.Steps.tells (g.T.Steps.known c.args.caller.now) c.in_err-written.field-0.0 (g.T.Steps.known c.attempt.new.caller) =
    error_later _ _ (g.T.Steps.known c.args.caller.now) (g.T.Steps.known c.loop-tried.caller) _ c.loop-tried.invariant.faults c.in_err-written.ensures.counts in
    search rules

pub returns-in-Answered-clause-counts : goal.returns-in-Answered-clause-counts
returns-in-Answered-clause-counts g c = c.in_ok-written.ensures.counts ∙ c.loop-tried.invariant.faults

pub returns-in_err-written-clause-grows : goal.returns-in_err-written-clause-grows
returns-in_err-written-clause-grows g c = grows_trans _ _ _ c.loop-tried.invariant.grows c.in_err-written.ensures.grows

pub returns-in-Answered-clause-grows : goal.returns-in-Answered-clause-grows
returns-in-Answered-clause-grows g c = grows_trans _ _ _ c.loop-tried.invariant.grows c.in_ok-written.ensures.grows
