use Rattle.std.proofs.Common.{◌≡◌, drop}
use Rattle.std.specs.Option.{option_copied}
use Rattle.reconcile.specs.Replay.{or_else, last_said, protocol_said}
use Rattle.table_rules.proofs.said.own_protocol.Given as goal

abbrev pub invariant-loop-action : goal.invariant-loop-action
invariant-loop-action l = or_else (last_said protocol_said (drop l.action-index l.actions)) (option_copied l.last) ≡ last_said protocol_said l.actions
