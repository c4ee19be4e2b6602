use Rattle.std.proofs.Common.{subst}
use Rattle.lake_io.specs.GivenIds.{GivesNew, IdData, counted_to}
use Rattle.lake_io.proofs.GivenLemmas.{counted_gives}
use Rattle.lake_io.proofs.identifiers.ListIdsIds.next.Goals as goal

pub returns-in-Some-clause-new : goal.returns-in-Some-clause-new
returns-in-Some-clause-new c =
    let P : IdData → Type 0 = λ s. GivesNew s.differ (counted_to s.first s.next) c.in-Some.id (counted_to c.self.inside.first c.next_number-self-inside.result) in
    λ differ. subst P c.self.view_is
    (counted_gives c.self.inside.differ c.self.inside.first c.in-Some.id c.self.inside.next c.next_number-self-inside.result differ c.in-Some.is c.next_number-self-inside.ensures c.self.invariant)
