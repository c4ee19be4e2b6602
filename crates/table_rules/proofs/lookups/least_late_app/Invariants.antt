use Rattle.std.proofs.Common.{◌≡◌, drop, fold}
use Rattle.std.specs.List.{filter_map}
use Rattle.std.specs.Option.{option_copied}
use Rattle.least_names.specs.Least.{least, lesser}
use Rattle.table_rules.specs.Broken.{late_app}
use Rattle.table_rules.specs.Seen.{number_in}
use Rattle.table_rules.proofs.lookups.least_late_app.Given as goal

abbrev pub invariant-loop-action : goal.invariant-loop-action
invariant-loop-action l =
    fold lesser (option_copied l.best) (filter_map (late_app (number_in l.state)) (drop l.action-index l.actions))
    ≡ least (filter_map (late_app (number_in l.state)) l.actions)
