use Rattle.std.proofs.Common.{◌≡◌, drop, fold, option_map}
use Rattle.std.specs.List.{filter_map}
use Rattle.action_types.specs.Files.{file_of_key}
use Rattle.least_names.specs.Least.{least_file, lesser_file}
use Rattle.conflict_rules.specs.Conflict.{removed_twice}
use Rattle.conflict_rules.proofs.rules.least_removed_twice.Given as goal

abbrev pub invariant-loop-action : goal.invariant-loop-action
invariant-loop-action l =
    fold lesser_file (option_map file_of_key l.best) (filter_map (removed_twice l.removes) (drop l.action-index l.winner))
    ≡ least_file (filter_map (removed_twice l.removes) l.winner)
