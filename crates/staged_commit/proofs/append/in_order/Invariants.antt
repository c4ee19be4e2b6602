use Rattle.std.proofs.Common.{◌≡◌, map, take}
use Rattle.staged_commit.specs.Adds.{adds_in_order}
use Rattle.staged_commit.proofs.append.in_order.Given as goal

abbrev pub invariant-loop-add : goal.invariant-loop-add
invariant-loop-add l = map (λ a. a.now) l.list.items ≡ adds_in_order (take l.add-index l.adds)
