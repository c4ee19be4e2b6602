use Rattle.std.proofs.Common.{◌≡◌, drop, fold, option_map}
use Rattle.std.specs.List.{filter_map}
use Rattle.action_types.specs.Files.{file_of_key}
use Rattle.least_names.specs.Least.{least_file, lesser_file}
use Rattle.table_rules.specs.Broken.{changing_file}
use Rattle.table_rules.proofs.contents.least_changing_file.Given as goal

abbrev pub invariant-loop-action : goal.invariant-loop-action
invariant-loop-action l =
    fold lesser_file (option_map file_of_key l.best) (filter_map changing_file (drop l.action-index l.actions))
    ≡ least_file (filter_map changing_file l.actions)
