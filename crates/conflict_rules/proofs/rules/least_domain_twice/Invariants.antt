use Rattle.std.proofs.Common.{◌≡◌, drop, fold}
use Rattle.std.specs.List.{filter_map}
use Rattle.std.specs.Option.{option_copied}
use Rattle.least_names.specs.Least.{least, lesser}
use Rattle.conflict_rules.specs.Conflict.{domain_twice}
use Rattle.conflict_rules.proofs.rules.least_domain_twice.Given as goal

abbrev pub invariant-loop-action : goal.invariant-loop-action
invariant-loop-action l =
    fold lesser (option_copied l.best) (filter_map (domain_twice l.domains) (drop l.action-index l.winner))
    ≡ least (filter_map (domain_twice l.domains) l.winner)
