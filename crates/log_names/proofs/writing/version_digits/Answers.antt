use Rattle.std.proofs.Common.{◌-◌, length-set, rules, arith, refl, sym, ◌∙◌}
use Rattle.log_names.proofs.Digits.{digits_begun, digits_at, digits_done}
use Rattle.log_names.proofs.writing.version_digits.Goals as goal

pub loop-place-init : goal.loop-place-init
loop-place-init c = record { within = omega arith; width = refl; written = search (rules, digits_begun) }

pub loop-place-preserved : goal.loop-place-preserved
loop-place-preserved c = record {
  within = omega arith;
  width = length-set c.loop-place.digits (c.loop-place.place - 1) _ ∙ c.loop-place.invariant.width;
  written = digits_at c.loop-place.place (c.loop-place.place - 1) c.loop-place.rest c.loop-place.digits (omega arith) (omega arith) ∙ c.loop-place.invariant.written;
}

pub returns : goal.returns
returns c = sym (digits_done c.loop-place.place c.loop-place.rest c.loop-place.digits (omega arith)) ∙ c.loop-place.invariant.written
