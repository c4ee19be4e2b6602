use Rattle.std.proofs.Common.{◌++◌, take}
use Rattle.reconcile.specs.Replay.{Log}
use Rattle.reconcile.specs.Standing.{StandsFor}
use Rattle.conflict_rules.specs.Conflict.{commits_of}
use Rattle.writer_txn.proofs.attempts.with_commits.Given as goal

abbrev pub invariant-loop-commit : goal.invariant-loop-commit
invariant-loop-commit l = (log : Log) → StandsFor l.fn.state log → StandsFor l.state (log ++ commits_of (take l.commit-index l.commits))
