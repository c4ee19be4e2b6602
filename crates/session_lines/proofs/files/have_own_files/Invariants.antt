use Rattle.std.proofs.Common.{◌≡◌, [], take, drop}
use Rattle.staged_commit.specs.Adds.{are_new}
use Rattle.session_lines.proofs.Steps.{Holds}
use Rattle.session_lines.proofs.files.have_own_files.Given as goal

abbrev pub invariant-loop-add : goal.invariant-loop-add
invariant-loop-add l =
    (are_new (take l.add-index l.adds) (drop l.add-index l.adds) ≡ are_new [] l.adds) × Holds l.names (take l.add-index l.adds)
