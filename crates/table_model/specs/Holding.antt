-- When knowledge holds in a world, and which worlds are later.
use Rattle.std.specs.Prelude.{◌≡◌, ◌<◌, ◌≤◌, ◌⊎◌, ℕ, List, length, IsTrue, Option, Some, IfSome, All}
use Rattle.log_names.specs.declared.LogName.TheVariants as name
use Rattle.table_model.specs.Files.{file_at}
use Rattle.table_model.specs.World.{WorldData, stands, log_of}
use Rattle.table_model.specs.Consistency.{IsConsistent}
use Rattle.table_model.specs.Knowledge.{Knowledge, Terms, Triple, StartsWith}

abbrev pub terms_of : WorldData → Terms
terms_of w = record { limits = w.limits; tells = w.tells }

-- a staged file stands, or its version is ratified
abbrev pub IsKeptIn : WorldData → Triple → Type 0
IsKeptIn w t = (t.version < length w.records) ⊎ (file_at w.files (name.Staged t.version t.id) ≡ Some t.bytes)

pub record HoldsIn (w : WorldData) (k : Knowledge) : Type 0 where
  pub terms : IfSome k.terms (λ t. t ≡ terms_of w)
  pub seen : StartsWith (log_of w) k.seen
  pub mine : All (λ version. version < length k.seen) k.mine
  pub told : k.told ≤ length w.records
  pub reported : k.reported ≤ w.reported
  pub within : k.reported ≤ k.published
  pub published : IsTrue w.tells → (version : ℕ) → version < k.published → IsTrue (stands w (name.Published version))
  pub kept : IsTrue w.tells → All (IsKeptIn w) k.kept
  pub marks : IsTrue w.tells → All (λ m. m.version < k.published) k.marks
  pub marked : IsTrue w.tells → All (λ m. IsTrue (stands w (name.Checkpoint m.version m.id))) k.marks
  pub faults : k.faults ≤ w.tally

-- a world that is told is consistent, and what its caller knows holds in it
abbrev pub HoldsInTold : Option WorldData → Knowledge → Type 0
HoldsInTold told k = IfSome told (λ w. IsConsistent w × HoldsIn w k)

-- a later world: the log grew at its end, and what was published, reported and counted stays
pub record IsLater (w x : WorldData) : Type 0 where
  pub limits : x.limits ≡ w.limits
  pub tells : x.tells ≡ w.tells
  pub first : x.first ≡ w.first
  pub log : StartsWith (log_of x) (log_of w)
  pub records : length w.records ≤ length x.records
  pub reported : w.reported ≤ x.reported
  pub tally : w.tally ≤ x.tally
  pub published : (version : ℕ) → IsTrue (stands w (name.Published version)) → IsTrue (stands x (name.Published version))
  pub checkpoints : (version id : ℕ) (bytes : List ℕ) → file_at w.files (name.Checkpoint version id) ≡ Some bytes
      → file_at x.files (name.Checkpoint version id) ≡ Some bytes
  pub staged : (version id : ℕ) (bytes : List ℕ) → length x.records ≤ version
      → file_at w.files (name.Staged version id) ≡ Some bytes → file_at x.files (name.Staged version id) ≡ Some bytes

-- the versions that became the caller's own are new ones
pub record GainsOwn (w x : WorldData) (k m : Knowledge) : Type 0 where
  pub gained : StartsWith m.mine k.mine
  pub new : All (λ version. (length w.records ≤ version) × (version < length x.records)) gained.rest
