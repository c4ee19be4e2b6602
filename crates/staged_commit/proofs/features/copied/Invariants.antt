use Rattle.std.proofs.Common.{◌≡◌, map, take}
use Rattle.staged_commit.proofs.features.copied.Given as goal

abbrev pub invariant-loop-name : goal.invariant-loop-name
invariant-loop-name l = l.names ≡ map (λ n. n.now) (take l.name-index l.list)
