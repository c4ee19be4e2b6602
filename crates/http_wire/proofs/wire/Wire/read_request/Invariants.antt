-- What was taken since the reader was asked; each piece that comes has a byte.
use Rattle.std.proofs.Common.{◌≡◌, ◌-◌}
use Rattle.lake_io.specs.Reading.{input_limit}
use Rattle.http_wire.proofs.Reading.{HasRead}
use Rattle.http_wire.proofs.wire.Wire.read_request.Given as goal

abbrev pub invariant-loop-request : goal.invariant-loop-request
invariant-loop-request g l =
    HasRead g.I.Source.tells l.limit (g.I.Source.taken l.fn.source) (g.I.Source.left l.fn.source) l.fn.self (g.I.Source.taken l.source) (g.I.Source.left l.source) l.self
    × (g.I.Source.faults l.source ≡ g.I.Source.faults l.fn.source)

abbrev pub decreases-loop-request : goal.decreases-loop-request
decreases-loop-request g l = input_limit - l.self.read
