use Rattle.std.proofs.Common.{rules, ap, length, arith}
use Rattle.snapshot_load.specs.Causes.{ReadCause}
use Rattle.snapshot_load.proofs.Causing.{cause_later}
use Rattle.snapshot_load.proofs.Keeping.{loads_refused, loads_asked, loads_read}
use Rattle.snapshot_load.proofs.Replaying.{seen_same}
use Rattle.snapshot_load.proofs.above.winners.Goals as goal

pub returns-in_err-winners-clause-cause : goal.returns-in_err-winners-clause-cause
returns-in_err-winners-clause-cause g c =
    let i : ReadCause g.T.Steps.tells c.in_err-winners.field-0.0 (g.T.Steps.known c.args.caller.now) (g.T.Steps.known c.actions_above.new.caller) =
    cause_later _ _ _ _ _ c.in_ok-commits.ensures.grows c.in_err-winners.ensures.cause in
    search rules

pub returns-in_err-commits-clause-turns : goal.returns-in_err-commits-clause-turns
returns-in_err-commits-clause-turns g c = loads_refused 0 _ _ c.in_err-commits.field-0.0 _ c.in_err-commits.ensures.learns

pub returns-in_err-winners-clause-turns : goal.returns-in_err-winners-clause-turns
returns-in_err-winners-clause-turns g c =
    let count = c.in_ok-commits.ensures.learns.count in
    let seen = ap length (seen_same _ _ _ c.in_err-winners.ensures.reads) in
    loads_read 0 _ _ _ _ _ (loads_asked _ 0 0 _ _ _ c.in_ok-commits.ensures.learns) c.in_err-winners.ensures.reads (omega (arith, count, seen))

pub returns-clause-turns : goal.returns-clause-turns
returns-clause-turns g c =
    let count = c.in_ok-commits.ensures.learns.count in
    let seen = ap length (seen_same _ _ _ c.in_ok-winners.ensures.reads) in
    loads_read 0 _ _ _ _ _ (loads_asked _ 0 0 _ _ _ c.in_ok-commits.ensures.learns) c.in_ok-winners.ensures.reads (omega (arith, count, seen))
