use Rattle.std.proofs.Common.{◌≡◌, filter, take}
use Rattle.table_rules.specs.Features.{shared_features}
use Rattle.table_rules.specs.Texts.{names_have}
use Rattle.staged_commit.proofs.features.shared_of.Given as goal

abbrev pub invariant-loop-name : goal.invariant-loop-name
invariant-loop-name l = l.shared ≡ filter (names_have shared_features) (take l.name-index l.names)
