use Rattle.std.proofs.Common.{◌≡◌, ◌++◌, map, take}
use Rattle.action_types.specs.declared.actions.Action.TheVariants as action
use Rattle.staged_commit.proofs.contents.with_adds.Given as goal

abbrev pub invariant-loop-add : goal.invariant-loop-add
invariant-loop-add l = l.actions.items ≡ l.initial.actions.items ++ map (λ a. action.Add a.now) (take l.add-index l.adds)
