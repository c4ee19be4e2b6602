-- The values of the headers so far.
use Rattle.std.proofs.Common.{map, take}
use Rattle.httparse.specs.Spans.{header_bytes}
use Rattle.http_wire.specs.Head.{values_named}
use Rattle.http_wire.specs.Named.{AreValues}
use Rattle.http_wire.proofs.head.values_of.Given as goal

abbrev pub invariant-loop-header : goal.invariant-loop-header
invariant-loop-header l = AreValues l.values (values_named l.name (map (header_bytes l.front) (take l.header-index l.headers)))
