use Rattle.std.proofs.Common.{◌≡◌, ◌≤◌, length, drop}
use Rattle.object_store.specs.Directory.{listed_files}
use Rattle.object_store.proofs.asking.sorted_names.Given as goal

abbrev pub invariant-loop-left : goal.invariant-loop-left
invariant-loop-left l = (l.left ≤ length l.all) × (l.shelf ≡ listed_files (drop l.left l.all))

abbrev pub decreases-loop-left : goal.decreases-loop-left
decreases-loop-left l = l.left
