use Rattle.std.proofs.Common.{◌<◌, ◌≤◌, ℕ}
use Rattle.std.specs.Prelude.{Contains}
use Rattle.log_names.specs.declared.LogName.TheVariants as name
use Rattle.snapshot_load.proofs.reading.leading_published.Given as goal

abbrev pub invariant-loop-listed : goal.invariant-loop-listed
invariant-loop-listed l = record {
  few : l.count ≤ l.listed-index;
  shown : (version : ℕ) → version < l.count → Contains l.names (name.Published version);
}
