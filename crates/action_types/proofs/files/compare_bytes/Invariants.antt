use Rattle.std.proofs.Common.{◌≡◌, length}
use Rattle.action_types.specs.Files.{name_cmp}
use Rattle.action_types.specs.Parts.{bytes_left}
use Rattle.action_types.proofs.files.compare_bytes.Given as goal

abbrev pub invariant-loop-byte : goal.invariant-loop-byte
invariant-loop-byte l = name_cmp (bytes_left l.initial.left) (bytes_left l.initial.right) ≡ name_cmp (bytes_left l.left) (bytes_left l.right)

abbrev pub decreases-loop-byte : goal.decreases-loop-byte
decreases-loop-byte l = length (bytes_left l.left)
