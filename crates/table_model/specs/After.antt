-- What every caller may count on after any work, whoever else acts on the world.
use Rattle.std.specs.Prelude.{◌+◌, ◌≤◌}
use Rattle.table_model.specs.World.{WorldData}
use Rattle.table_model.specs.Consistency.{IsConsistent}
use Rattle.table_model.specs.Knowledge.{Knowledge, IsGrown}
use Rattle.table_model.specs.Holding.{HoldsIn, IsLater, GainsOwn}

-- from a world `w` and what was known there to a world `x` and what is known there
pub record IsAfter (w : WorldData) (k : Knowledge) (x : WorldData) (m : Knowledge) : Type 0 where
  pub later : IsLater w x
  pub consistent : IsConsistent w → IsConsistent x
  pub holds : IsConsistent w → HoldsIn w k → HoldsIn x m
  pub grown : IsGrown k m
  pub own : GainsOwn w x k m
  -- the caller's faults rose by no more than the store's count
  pub faults : m.faults + w.tally ≤ k.faults + x.tally
