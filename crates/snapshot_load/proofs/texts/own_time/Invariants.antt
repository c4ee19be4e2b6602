use Rattle.std.proofs.Common.{◌≡◌, drop}
use Rattle.reconcile.specs.Replay.{or_else, last_said, time_said}
use Rattle.snapshot_load.proofs.texts.own_time.Given as goal

abbrev pub invariant-loop-action : goal.invariant-loop-action
invariant-loop-action l = or_else (last_said time_said (drop l.action-index l.actions)) l.last ≡ last_said time_said l.actions
