use Rattle.std.proofs.Common.{rules}
use Rattle.std.specs.Prelude.{Err}
use Rattle.writer_txn.specs.Converting.{of_load}
use Rattle.writer_txn.specs.Counting.{CountsError}
use Rattle.writer_txn.specs.Judging.{CaughtNow}
use Rattle.writer_txn.specs.Trying.{AttemptStands}
use Rattle.writer_txn.proofs.Catching.{front_longer, caught_read, reading_leaves, caught_judged}
use Rattle.writer_txn.proofs.Faults.{of_loading, judged_counts}
use Rattle.writer_txn.proofs.Beginnings.{load_refused_stands}
use Rattle.writer_txn.proofs.attempts.caught_up.Goals as goal

pub returns-in_err-winners-clause-caught : goal.returns-in_err-winners-clause-caught
returns-in_err-winners-clause-caught g c =
    let i : CaughtNow g.T.Steps.tells c.args.front.base (Err (of_load c.in_err-winners.field-0.0)) (g.T.Steps.known c.args.caller.now) (g.T.Steps.known c.winners.new.caller) =
    caught_read g.T.Steps.tells c.args.front.base c.in_err-winners.field-0.0 _ _ c.in_err-winners.ensures.cause in
    search rules

pub returns-in_err-winners-clause-stands : goal.returns-in_err-winners-clause-stands
returns-in_err-winners-clause-stands g c = λ reading last.
    let i : AttemptStands g.T.Steps.tells c.args.what.now (Err (of_load c.in_err-winners.field-0.0)) reading last (g.T.Steps.known c.winners.new.caller).seen =
    load_refused_stands g.T.Steps.tells c.args.what.now c.in_err-winners.field-0.0 reading last (g.T.Steps.known c.winners.new.caller).seen in
    search rules

pub returns-in_err-winners-clause-own : goal.returns-in_err-winners-clause-own
returns-in_err-winners-clause-own g c = reading_leaves _ _ _ _ c.in_err-winners.ensures.turns

pub returns-clause-stands : goal.returns-clause-stands
returns-clause-stands g c = λ reading last.
    c.judged.ensures.stands g.T.Steps.tells _ reading last (front_longer _ _ _ _ _ c.in_ok-winners.ensures.grows.seen c.requires.front) c.in_ok-winners.ensures.winners

pub returns-clause-caught : goal.returns-clause-caught
returns-clause-caught g c = caught_judged _ _ _ _ _ _ c.in_ok-winners.ensures.winners.latest c.judged.ensures.judged

pub returns-clause-own : goal.returns-clause-own
returns-clause-own g c = reading_leaves _ _ _ _ c.in_ok-winners.ensures.turns

pub returns-in_err-winners-clause-counts : goal.returns-in_err-winners-clause-counts
returns-in_err-winners-clause-counts g c =
    let i : CountsError g.T.Steps.tells (g.T.Steps.known c.args.caller.now) (of_load c.in_err-winners.field-0.0) (g.T.Steps.known c.winners.new.caller) =
    of_loading _ c.in_err-winners.field-0.0 (g.T.Steps.known c.args.caller.now) (g.T.Steps.known c.winners.new.caller) c.in_err-winners.ensures.counts in
    search rules

pub returns-clause-counts : goal.returns-clause-counts
returns-clause-counts g c =
    judged_counts _ _ _ _ (g.T.Steps.known c.args.caller.now) (g.T.Steps.known c.winners.new.caller) c.judged.ensures.judged c.in_ok-winners.ensures.counts
