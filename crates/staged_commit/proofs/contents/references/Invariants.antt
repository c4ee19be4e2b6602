use Rattle.std.proofs.Common.{◌≡◌, map, take}
use Rattle.staged_commit.proofs.contents.references.Given as goal

abbrev pub invariant-loop-item : goal.invariant-loop-item
invariant-loop-item g l = map (λ r. r.now) l.list.items ≡ take l.item-index l.items
