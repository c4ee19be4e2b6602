use Rattle.std.proofs.Common.{subst}
use Rattle.table_model.specs.Consistency.{IsConsistent}
use Rattle.table_model.specs.Knowledge.{IsValid}
use Rattle.table_model.specs.Holding.{HoldsIn}
use Rattle.table_model.specs.Alone.{Alone}
use Rattle.table_model.proofs.Knowing.{valid_of}
use Rattle.table_world.proofs.solo.SoloSteps.limits.Goals as goal

pub returns-clause-valid : goal.returns-clause-valid
returns-clause-valid g c =
    let P : Alone → Type 0 = λ s. IsValid s.known in
    subst P c.self.view_is (valid_of c.self.inside.world _ c.self.invariant.0.consistent c.self.invariant.0.holds)

pub returns-clause-told : goal.returns-clause-told
returns-clause-told g c =
    let P : Alone → Type 0 = λ s. IsConsistent s.world × HoldsIn s.world s.known in
    subst P c.self.view_is (c.self.invariant.0.consistent, c.self.invariant.0.holds)
