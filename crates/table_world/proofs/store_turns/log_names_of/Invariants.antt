use Rattle.std.proofs.Common.{◌≡◌, filter, map, take}
use Rattle.log_names.specs.Reading.{name_of}
use Rattle.table_model.specs.Turns.{is_log_name}
use Rattle.table_world.proofs.store_turns.log_names_of.Given as goal

abbrev pub invariant-loop-text : goal.invariant-loop-text
invariant-loop-text l = l.names.items ≡ filter is_log_name (map name_of (take l.text-index l.texts))
