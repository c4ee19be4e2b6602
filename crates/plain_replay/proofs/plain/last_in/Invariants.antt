use Rattle.std.proofs.Common.{◌≡◌, cond}
use Rattle.std.specs.Prelude.{Some, None}
use Rattle.std.specs.Slice.Iter.{iter_rest}
use Rattle.plain_replay.specs.Plain.{answers}
use Rattle.reconcile.specs.Replay.{last_said}
use Rattle.plain_replay.proofs.plain.last_in.Given as goal

-- no action behind those that are left answers
abbrev pub invariant-loop-action : goal.invariant-loop-action
invariant-loop-action l =
    last_said (λ a. cond (answers l.asked a) (Some a) None) l.actions
    ≡ last_said (λ a. cond (answers l.asked a) (Some a) None) (iter_rest l.action-iterator.iter)
