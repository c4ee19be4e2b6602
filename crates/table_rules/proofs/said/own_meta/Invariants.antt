use Rattle.std.proofs.Common.{◌≡◌, drop}
use Rattle.std.specs.Option.{option_copied}
use Rattle.reconcile.specs.Replay.{or_else, last_said, meta_said}
use Rattle.table_rules.proofs.said.own_meta.Given as goal

abbrev pub invariant-loop-action : goal.invariant-loop-action
invariant-loop-action l = or_else (last_said meta_said (drop l.action-index l.actions)) (option_copied l.last) ≡ last_said meta_said l.actions
