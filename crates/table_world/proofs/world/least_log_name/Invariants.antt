use Rattle.std.proofs.Common.{◌≡◌, drop}
use Rattle.table_world.specs.Worlds.{first_log_name}
use Rattle.table_world.proofs.world.least_log_name.Given as goal

abbrev pub invariant-loop-text : goal.invariant-loop-text
invariant-loop-text l = first_log_name (drop l.text-index l.texts) ≡ first_log_name l.texts
