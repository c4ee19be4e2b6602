use Rattle.std.proofs.Common.{◌≡◌, ◌≤◌, ◌++◌, length, drop}
use Rattle.log_names.specs.Texts.{digits, version_text}
use Rattle.log_names.proofs.writing.version_digits.Given as goal

abbrev pub invariant-loop-place : goal.invariant-loop-place
invariant-loop-place l = record {
  within : l.place ≤ 20;
  width : length l.digits ≡ 20;
  written : digits l.place l.rest ++ drop l.place l.digits ≡ version_text l.version;
}

abbrev pub decreases-loop-place : goal.decreases-loop-place
decreases-loop-place l = l.place
