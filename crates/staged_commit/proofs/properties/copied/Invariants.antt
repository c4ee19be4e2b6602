use Rattle.std.proofs.Common.{◌≡◌, map, take}
use Rattle.staged_commit.proofs.properties.copied.Given as goal

abbrev pub invariant-loop-pair : goal.invariant-loop-pair
invariant-loop-pair l = l.pairs ≡ map (λ p. p.now) (take l.pair-index l.list)
