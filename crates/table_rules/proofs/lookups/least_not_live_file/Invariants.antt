use Rattle.std.proofs.Common.{◌≡◌, drop, fold, option_map}
use Rattle.std.specs.List.{filter_map}
use Rattle.action_types.specs.Files.{file_of_key}
use Rattle.least_names.specs.Least.{least_file, lesser_file}
use Rattle.reconcile.specs.Standing.{live_in}
use Rattle.table_rules.specs.Broken.{not_live_file}
use Rattle.table_rules.proofs.lookups.least_not_live_file.Given as goal

abbrev pub invariant-loop-action : goal.invariant-loop-action
invariant-loop-action l =
    fold lesser_file (option_map file_of_key l.best) (filter_map (not_live_file (live_in l.state)) (drop l.action-index l.actions))
    ≡ least_file (filter_map (not_live_file (live_in l.state)) l.actions)
