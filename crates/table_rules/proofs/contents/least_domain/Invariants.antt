use Rattle.std.proofs.Common.{◌≡◌, drop, fold}
use Rattle.std.specs.List.{filter_map}
use Rattle.std.specs.Option.{option_copied}
use Rattle.least_names.specs.Least.{least, lesser}
use Rattle.table_rules.specs.Broken.{domain_named}
use Rattle.table_rules.proofs.contents.least_domain.Given as goal

abbrev pub invariant-loop-action : goal.invariant-loop-action
invariant-loop-action l =
    fold lesser (option_copied l.best) (filter_map domain_named (drop l.action-index l.actions))
    ≡ least (filter_map domain_named l.actions)
