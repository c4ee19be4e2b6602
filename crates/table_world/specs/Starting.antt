-- How a world starts.
use Rattle.std.specs.Prelude.{◌≡◌, ◌+◌, ℕ, Bool, IsTrue, List, None, Some}
use Rattle.commit_catalog.specs.declared.Limits.{Limits}
use Rattle.object_store.specs.Files.{Files, names_of}
use Rattle.table_model.specs.World.{WorldData}
use Rattle.table_model.specs.Consistency.{IsConsistent}
use Rattle.table_world.specs.Worlds.{fresh_world, first_log_name}
use Rattle.table_world.specs.declared.world.Start.{Start}
use Rattle.table_world.specs.declared.world.Start.TheVariants.{NotEmpty, Fault, Memory}

-- a world without commits, over a folder without names of the log; the store's count of faults is the one that it was handed in with
pub record IsFresh (limits : Limits) (files : Files) (first : ℕ) (tells : Bool) (w : WorldData) : Type 0 where
  pub is : w ≡ fresh_world limits files first tells
  pub consistent : IsConsistent w
  pub empty : IsTrue tells → first_log_name (names_of files) ≡ None

pub record FindsLogName (files : Files) (tells : Bool) (name : List ℕ) : Type 0 where
  pub least : IsTrue tells → first_log_name (names_of files) ≡ Some name

-- what each refusal says, of the store that was handed in and the one that is handed back
abbrev pub StartFails : {S : Type 0} → (S → Files) → (S → ℕ) → Bool → S → Start S → Type 0
StartFails files faults tells store (NotEmpty back name) = FindsLogName (files store) tells name × (files back ≡ files store) × (faults back ≡ faults store)
StartFails files faults tells store (Fault back) = (faults back ≡ faults store + 1) × (files back ≡ files store)
StartFails files faults tells store (Memory back) = (files back ≡ files store) × (faults back ≡ faults store)
