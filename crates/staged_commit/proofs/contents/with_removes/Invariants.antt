use Rattle.std.proofs.Common.{◌≡◌, ◌++◌, map, take}
use Rattle.action_types.specs.declared.actions.Action.TheVariants as action
use Rattle.staged_commit.specs.Writes.{with_time}
use Rattle.staged_commit.proofs.contents.with_removes.Given as goal

abbrev pub invariant-loop-remove : goal.invariant-loop-remove
invariant-loop-remove l = l.actions.items ≡ l.initial.actions.items ++ map (λ r. action.Remove (with_time l.time r.now)) (take l.remove-index l.removes)
