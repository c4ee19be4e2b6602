-- What one turn of the one caller of a world has done.
use Rattle.std.specs.Prelude.{◌≤◌, length}
use Rattle.table_model.specs.World.{WorldData}
use Rattle.table_model.specs.Consistency.{IsConsistent}
use Rattle.table_model.specs.Knowledge.{IsGrown, IsValid}
use Rattle.table_model.specs.Holding.{HoldsIn}
use Rattle.table_model.specs.Alone.{IsAloneAfter}
use Rattle.table_model.specs.declared.notes.Notes.{Notes}
use Rattle.table_model.specs.Noted.{known_of}

-- the notes are true of the world
pub record IsKnownIn (w : WorldData) (n : Notes) : Type 0 where
  pub consistent : IsConsistent w
  pub holds : HoldsIn w (known_of w n)
  pub seen : n.seen ≤ length w.records

pub record HasDone (turn : Type 0) (learns : Type 0) (w : WorldData) (n : Notes) (x : WorldData) (m : Notes) : Type 0 where
  pub turned : turn
  pub learnt : learns
  pub grows : IsGrown (known_of w n) (known_of x m)
  pub valid : IsValid (known_of x m)
  pub after : IsAloneAfter (record { world = w; known = known_of w n }) (record { world = x; known = known_of x m })
  pub known : IsKnownIn x m
