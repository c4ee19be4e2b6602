use Rattle.std.proofs.Common.{◌≡◌, ◌<◌, ◌^◌, take}
use Rattle.log_names.specs.Reading.{decimal_value}
use Rattle.log_names.proofs.reading.decimal_value.Given as goal

abbrev pub invariant-loop-digit : goal.invariant-loop-digit
invariant-loop-digit l = record {
  value_so_far : l.value ≡ decimal_value (take l.digit-index l.digits);
  short : l.value < 10 ^ l.digit-index;
}
