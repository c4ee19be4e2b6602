-- What every turn of any caller leads to, from a consistent world `w` in which `k` holds: to a later consistent world `x`,
-- in which the new knowledge `m` holds.
use Rattle.std.specs.Prelude.{◌≤◌, ◌+◌}
use Rattle.table_model.specs.World.{WorldData}
use Rattle.table_model.specs.Consistency.{IsConsistent}
use Rattle.table_model.specs.Knowledge.{Knowledge, IsGrown}
use Rattle.table_model.specs.Holding.{HoldsIn, IsLater, GainsOwn}

pub record Outcome (w x : WorldData) (k m : Knowledge) : Type 0 where
  pub later : IsLater w x
  pub consistent : IsConsistent x
  pub holds : HoldsIn x m
  pub grown : IsGrown k m
  pub own : GainsOwn w x k m
  -- the caller's faults rose by no more than the store's count
  pub faults : m.faults + w.tally ≤ k.faults + x.tally
