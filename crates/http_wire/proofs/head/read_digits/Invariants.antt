-- The number so far, followed by the digits that are left, is the number of all.
use Rattle.std.proofs.Common.{◌≡◌, ◌<◌, ◌^◌, drop}
use Rattle.std.specs.Str.Parse.{digits_value, digits_value_after}
use Rattle.http_wire.proofs.head.read_digits.Given as goal

abbrev pub invariant-loop-b : goal.invariant-loop-b
invariant-loop-b l = (digits_value_after 10 l.n (drop l.b-index l.value) ≡ digits_value 10 l.value) × (l.n < 10 ^ l.b-index)
