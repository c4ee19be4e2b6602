-- A consistent world: what holds after every turn.
use Rattle.std.specs.Prelude.{◌≡◌, ◌<◌, ◌≤◌, ◌+◌, ℕ, List, length, IsTrue, Some, is_some, Option}
use Rattle.log_names.specs.declared.LogName.{LogName}
use Rattle.log_names.specs.declared.LogName.TheVariants as name
use Rattle.commit_catalog.specs.Records.{AreLimits}
use Rattle.table_model.specs.Log.{commit_at, commit_time, IsSound}
use Rattle.table_model.specs.Files.{file_at}
use Rattle.table_model.specs.World.{WorldData, entry_at, stands, file_of_version, log_of}

-- over every store: the numbers are within their limits
pub record IsSized (w : WorldData) : Type 0 where
  pub bounds : AreLimits w.limits
  pub reported : w.reported ≤ length w.records
  pub versions : length w.records ≤ w.limits.versions
  pub unpublished : length w.records ≤ w.reported + w.limits.unpublished

-- where the store tells what it holds
pub record IsFiled (w : WorldData) : Type 0 where
  -- the published names that stand are those of the first versions, all of them ratified
  pub ratified : (version : ℕ) → IsTrue (stands w (name.Published version)) → version < length w.records
  pub leading : (version below : ℕ) → IsTrue (stands w (name.Published version)) → below < version → IsTrue (stands w (name.Published below))
  -- a reported version is published
  pub reported : (version : ℕ) → version < w.reported → IsTrue (stands w (name.Published version))
  -- each ratified version has its published or its staged file, and where it has both they are equal
  pub kept : (version : ℕ) → version < length w.records → IsTrue (is_some (file_of_version w.files version (entry_at w.records version).id))
  pub equal : (version : ℕ) (published staged : List ℕ) → version < length w.records
      → file_at w.files (name.Published version) ≡ Some published
      → file_at w.files (name.Staged version (entry_at w.records version).id) ≡ Some staged → published ≡ staged
  -- each commit is the next of those below it, and is recorded with its time
  pub sound : IsSound (log_of w)
  pub times : (version : ℕ) → version < length w.records → (entry_at w.records version).time ≡ commit_time (commit_at (log_of w) version).bytes
  -- a checkpoint is of a published version
  pub checkpoints : (version id : ℕ) → IsTrue (stands w (name.Checkpoint version id)) → IsTrue (stands w (name.Published version))

pub record IsConsistent (w : WorldData) : Type 0 where
  pub sized : IsSized w
  pub filed : IsTrue w.tells → IsFiled w
