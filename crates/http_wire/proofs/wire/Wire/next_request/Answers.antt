-- A reader that is closed by an error.
use Rattle.http_wire.proofs.Reading.{next_by, next_err}
use Rattle.http_wire.proofs.wire.Wire.next_request.Goals as goal

pub returns-in-Err-clause-next : goal.returns-in-Err-clause-next
returns-in-Err-clause-next g c =
    next_by c.args.self.now.state _ (next_err _ _ _ _ _ c.args.limit c.args.self.now c.in-Err.error _ _ c.in-Err.ensures.asks c.close-in-Err.ensures)
