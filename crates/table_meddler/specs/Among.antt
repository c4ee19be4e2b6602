-- A world in which others act too, and what one caller knows of it.
use Rattle.std.specs.Prelude.{◌≡◌, ◌<◌, ◌+◌, ◌-◌, ◌^◌, ◌⊎◌, ℕ, List, Result, Err, min}
use Rattle.table_model.specs.declared.answers.StepFault.{StepFault}
use Rattle.table_model.specs.declared.answers.StepFault.TheVariants.{Memory}
use Rattle.table_model.specs.World.{WorldData}
use Rattle.table_model.specs.Consistency.{IsConsistent}
use Rattle.table_model.specs.Knowledge.{Knowledge, IsGrown, IsValid}
use Rattle.table_model.specs.Holding.{HoldsIn, IsLater}
use Rattle.table_model.specs.After.{IsAfter}
use Rattle.table_model.specs.declared.notes.Notes.{Notes}
use Rattle.table_model.specs.Noted.{known_of}
use Rattle.table_world.specs.Done.{IsKnownIn}
use Rattle.table_meddler.specs.declared.foreign.Foreign.{Foreign}
use Rattle.table_meddler.specs.Others.{AreMade, AreCutShort}

-- the world, what the caller knows, the turns of the others in order, and how many turns the caller has made
pub record Among : Type 0 where
  pub world : WorldData
  pub known : Knowledge
  pub others : List Foreign
  pub turns : ℕ

-- after any work of the caller and of the others
abbrev pub IsAmongAfter : Among → Among → Type 0
IsAmongAfter a b = IsAfter a.world a.known b.world b.known

-- those of the others' turns that stand before the caller's turn of this number were made, in order, and then the caller's turn
pub record AreMet (turn : WorldData → WorldData → Type 0) (others : List Foreign) (number : ℕ) (w x : WorldData) : Type 0 where
  pub between : WorldData
  pub made : AreMade others number w between
  pub turned : turn between x

-- and where memory was short at one of the others' turns, the caller's is refused for want of it
abbrev pub IsMet : {A : Type 0} → (WorldData → Result A StepFault → WorldData → Type 0) → Result A StepFault → List Foreign → ℕ → WorldData → WorldData → Type 0
IsMet turn result others number w x = AreMet (λ y z. turn y result z) others number w x ⊎ ((result ≡ Err Memory) × AreCutShort others number w x)

-- One turn of the caller: it is counted, the others' turns of its number come before it, and nothing else is done. The world is
-- consistent afterwards, and what the caller knows holds in it.
pub record TakesTurn {A : Type 0} (turn : WorldData → Result A StepFault → WorldData → Type 0) (result : Result A StepFault) (a b : Among) : Type 0 where
  pub others : b.others ≡ a.others
  pub counted : b.turns ≡ min (a.turns + 1) (2 ^ 64 - 1)
  pub met : IsMet turn result a.others b.turns a.world b.world
  pub consistent : IsConsistent b.world
  pub holds : HoldsIn b.world b.known

-- a later consistent world
pub record LeadsTo (w x : WorldData) : Type 0 where
  pub later : IsLater w x
  pub consistent : IsConsistent x

-- what one turn of the caller has done, with the turns of others before it
pub record HasDoneAmong (met learns : Type 0) (w : WorldData) (n : Notes) (x : WorldData) (m : Notes) : Type 0 where
  pub turned : met
  pub learnt : learns
  pub grows : IsGrown (known_of w n) (known_of x m)
  pub valid : IsValid (known_of x m)
  pub after : IsAfter w (known_of w n) x (known_of x m)
  pub known : IsKnownIn x m
