use Rattle.std.proofs.Common.{◌≡◌}
use Rattle.std.specs.FinMap as fin
use Rattle.action_types.specs.Files.{name_cmp, unique_id}
use Rattle.reconcile.specs.Named.{named}
use Rattle.reconcile.proofs.by_file.of_vector.Given as goal

-- the values that are left tell of the vector what the map does
abbrev pub invariant-loop-id : goal.invariant-loop-id
invariant-loop-id g l = fin.find name_cmp (unique_id l.vector) (named l.id-iterator) ≡ fin.get l.files (unique_id l.vector)
