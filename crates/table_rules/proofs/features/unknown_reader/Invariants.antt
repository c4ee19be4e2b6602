use Rattle.std.proofs.Common.{◌≡◌, drop, not}
use Rattle.std.specs.List.{find}
use Rattle.table_rules.specs.Texts.{names_have}
use Rattle.table_rules.specs.Features.{shared_features}
use Rattle.table_rules.proofs.features.unknown_reader.Given as goal

abbrev pub invariant-loop-name : goal.invariant-loop-name
invariant-loop-name l = find (λ name. not (names_have shared_features name)) (drop l.name-index l.readers) ≡ find (λ name. not (names_have shared_features name)) l.readers
