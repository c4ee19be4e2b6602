use Rattle.std.proofs.Common.{◌≡◌, cond}
use Rattle.std.specs.Prelude.{Some, None}
use Rattle.std.specs.Slice.Iter.{iter_rest}
use Rattle.plain_replay.specs.Plain.{answers, log_of}
use Rattle.reconcile.specs.Replay.{in_log}
use Rattle.plain_replay.proofs.plain.last.Given as goal

-- no commit behind those that are left answers
abbrev pub invariant-loop-commit : goal.invariant-loop-commit
invariant-loop-commit l =
    in_log (λ a. cond (answers l.asked a) (Some a) None) (log_of l.commits)
    ≡ in_log (λ a. cond (answers l.asked a) (Some a) None) (log_of (iter_rest l.commit-iterator.iter))
