use Rattle.std.proofs.Common.{◌≡◌, map, take}
use Rattle.staged_commit.specs.Changes.{put_pairs}
use Rattle.staged_commit.proofs.properties.with_each.Given as goal

abbrev pub invariant-loop-pair : goal.invariant-loop-pair
invariant-loop-pair l = map (λ p. p.now) l.list.items ≡ put_pairs (take l.pair-index l.given) l.old
