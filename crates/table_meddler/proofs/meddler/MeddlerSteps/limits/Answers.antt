use Rattle.std.proofs.Common.{subst}
use Rattle.table_model.specs.Knowledge.{IsValid}
use Rattle.table_model.proofs.Knowing.{valid_of}
use Rattle.table_meddler.specs.Among.{Among}
use Rattle.table_meddler.proofs.meddler.MeddlerSteps.limits.Goals as goal

pub returns-clause-valid : goal.returns-clause-valid
returns-clause-valid g c =
    let P : Among → Type 0 = λ m. IsValid m.known in
    subst P c.self.view_is (valid_of c.self.inside.world _ c.self.invariant.0.consistent c.self.invariant.0.holds)
