use Rattle.std.proofs.Common.{◌≡◌, drop}
use Rattle.reconcile.specs.Standing.{live_in}
use Rattle.conflict_rules.specs.Conflict.{conflict_by, first_of, commits_of}
use Rattle.conflict_rules.proofs.conflict.lowest.Given as goal

abbrev pub invariant-loop-place : goal.invariant-loop-place
invariant-loop-place l =
    first_of (conflict_by l.intent (live_in l.base)) l.place (commits_of (drop l.place l.winners))
    ≡ first_of (conflict_by l.intent (live_in l.base)) 0 (commits_of l.winners)
