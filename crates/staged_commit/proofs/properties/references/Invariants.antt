use Rattle.std.proofs.Common.{◌≡◌, map, take}
use Rattle.staged_commit.proofs.properties.references.Given as goal

abbrev pub invariant-loop-pair : goal.invariant-loop-pair
invariant-loop-pair l = map (λ p. p.now) l.list.items ≡ take l.pair-index l.pairs
