-- An error of a step is the answer.
use Rattle.std.proofs.Common.{◌∙◌}
use Rattle.std.proofs.lemmas.Result.{err_from_is_err_and}
use Rattle.http_wire.proofs.Reading.{asks_front, asks_turn, held_next, read_more}
use Rattle.http_wire.proofs.wire.Wire.read_request.Goals as goal

pub returns-in_err-request-clause-asks : goal.returns-in_err-request-clause-asks
returns-in_err-request-clause-asks g c =
    let p = err_from_is_err_and c.from_residual.result c.from_residual.ensures.1 in
    rw (p.1, p.2) (asks_front _ _ _ _ _ _ c.loop-request.self c.args.limit c.in_err-request.field-0.0 _ c.loop-request.invariant.0 c.in_err-request.ensures)

pub returns-in_err-fill-clause-asks : goal.returns-in_err-fill-clause-asks
returns-in_err-fill-clause-asks g c =
    let p = err_from_is_err_and c.from_residual-in_err-fill.result c.from_residual-in_err-fill.ensures.1 in
    rw (p.1, p.2)
    (asks_turn _ _ _ _ _ _ c.loop-request.self c.args.limit c.in_ok-request.field-0 c.take_request.new.self c.in_err-fill.field-0.0 _ _ _
    c.loop-request.invariant.0 c.in_default.not-Some c.in_ok-request.ensures c.in_err-fill.ensures.fills)

pub returns-in-Some-clause-holds : goal.returns-in-Some-clause-holds
returns-in-Some-clause-holds g c =
    held_next _ c.args.limit _ _ c.args.self.now _ _ c.loop-request.self c.in-Some.request c.take_request.new.self c.loop-request.invariant.0
    (rw c.in-Some.is at c.in_ok-request.ensures)

pub loop-request-preserved : goal.loop-request-preserved
loop-request-preserved g c = (
  read_more _ _ _ _ _ _ c.loop-request.self c.args.limit c.in_ok-request.field-0 c.take_request.new.self c.in_ok-fill.field-0 _ _ _
      c.loop-request.invariant.0 c.in_default.not-Some c.in_ok-request.ensures c.if-not-branch.false c.in_ok-fill.ensures.fills,
  c.in_ok-fill.ensures.counts ∙ c.loop-request.invariant.1,
)
