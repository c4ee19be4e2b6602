-- What publishing, clearing and draining do to a world that is told.
use Rattle.std.specs.Prelude.{◌≡◌, ◌<◌, ◌≤◌, ℕ, List, false, IsTrue, length, take, Contains, Result, Ok, Err, Option, IfSome}
use Rattle.log_names.specs.declared.LogName.{LogName}
use Rattle.log_names.specs.declared.LogName.TheVariants as name
use Rattle.commit_catalog.specs.declared.Commits.{Commits}
use Rattle.commit_catalog.specs.Ratifying.{TellsCommits}
use Rattle.table_model.specs.World.{WorldData, stands, log_of, entry_at}
use Rattle.table_model.specs.Consistency.{IsConsistent}
use Rattle.publisher.specs.declared.answers.PublishError.{PublishError}
use Rattle.publisher.specs.declared.answers.PublishError.TheVariants as publish

-- A settled world: all versions are reported, and where the store tells what it holds, no staged file of a ratified
-- version stands. In a consistent world the published versions are then all versions.
pub record IsSettled (w : WorldData) : Type 0 where
  pub reported : w.reported ≡ length w.records
  pub cleared : IsTrue w.tells → (version id : ℕ) → version < length w.records → stands w (name.Staged version id) ≡ false

-- no commit comes or changes
pub record KeepsLog (w x : WorldData) : Type 0 where
  pub records : x.records ≡ w.records
  pub tells : x.tells ≡ w.tells
  pub log : log_of x ≡ log_of w

-- so many published files stand, from version 0 on
abbrev pub ArePublished : ℕ → WorldData → Type 0
ArePublished count w = IsTrue w.tells → (version : ℕ) → version < count → IsTrue (stands w (name.Published version))

-- all versions are reported, and the published files of all of them stand
pub record PublishesAll (w x : WorldData) : Type 0 where
  pub keeps : KeepsLog w x
  pub reported : x.reported ≡ length x.records
  pub published : ArePublished (length x.records) x

abbrev pub PublishTurns : {A : Type 0} → Result A PublishError → WorldData → WorldData → Type 0
PublishTurns (Ok answer) w x = PublishesAll w x
PublishTurns (Err publish.NoTable) w x = PublishesAll w x × (length x.records ≡ 0)
PublishTurns (Err (publish.Fault at)) w x = KeepsLog w x
PublishTurns (Err publish.Memory) w x = KeepsLog w x

-- no staged file of a reported version is left
pub record ClearsAll (w x : WorldData) : Type 0 where
  pub keeps : KeepsLog w x
  pub reported : x.reported ≡ w.reported
  pub cleared : IsTrue w.tells → (version id : ℕ) → version < w.reported → stands x (name.Staged version id) ≡ false

abbrev pub ClearTurns : {A : Type 0} → Result A PublishError → WorldData → WorldData → Type 0
ClearTurns (Ok answer) w x = ClearsAll w x
ClearTurns (Err publish.NoTable) w x = KeepsLog w x
ClearTurns (Err (publish.Fault at)) w x = KeepsLog w x
ClearTurns (Err publish.Memory) w x = KeepsLog w x

-- Of the single turns.

-- the catalogue is as these commits tell
abbrev pub AsCommitsTell : Commits → Option WorldData → Type 0
AsCommitsTell c o = IfSome o (λ w. TellsCommits w.records w.reported c)

-- a name stands where the store tells what it holds
abbrev pub IsThere : LogName → Option WorldData → Type 0
IsThere n o = IfSome o (λ x. IsTrue x.tells → IsTrue (stands x n))

-- it does not stand
abbrev pub IsGone : LogName → Option WorldData → Type 0
IsGone n o = IfSome o (λ x. IsTrue x.tells → stands x n ≡ false)

-- turns that read: the count of faults alone may have risen
abbrev pub SameButTally : WorldData → WorldData → Type 0
SameButTally w x = x ≡ record w { tally = x.tally }

-- the world is consistent, its log the same, and each published file stands
pub record IsKept (w x : WorldData) : Type 0 where
  pub consistent : IsConsistent x
  pub log : log_of x ≡ log_of w
  pub published : (version : ℕ) → IsTrue (stands w (name.Published version)) → IsTrue (stands x (name.Published version))

-- the catalogue is the same
pub record SameCatalogue (w x : WorldData) : Type 0 where
  pub records : x.records ≡ w.records
  pub reported : x.reported ≡ w.reported
  pub tells : x.tells ≡ w.tells

-- a ratified version under its id, of which all below are published
pub record IsNextToPublish (version id : ℕ) (w : WorldData) : Type 0 where
  pub consistent : IsConsistent w
  pub ratified : version < length w.records
  pub below : ArePublished version w
  pub under : id ≡ (entry_at w.records version).id

pub record PublishesVersion (version id : ℕ) (w x : WorldData) : Type 0 where
  pub same : SameCatalogue w x
  pub kept : IsNextToPublish version id w → IsKept w x

pub record PublishesUpTo (count : ℕ) (w x : WorldData) : Type 0 where
  pub same : SameCatalogue w x
  pub kept : IsConsistent w → IsKept w x
  pub published : IsConsistent w → ArePublished count x

-- staged files of versions below the reported number went, and no file came
pub record Clears (reported : ℕ) (w x : WorldData) : Type 0 where
  pub same : SameCatalogue w x
  pub kept : IsConsistent w → reported ≤ w.reported → IsKept w x
  pub fewer : (version id : ℕ) → IsTrue (stands x (name.Staged version id)) → IsTrue (stands w (name.Staged version id))

-- none of the first names that may be cleared stands
abbrev pub AreCleared : ℕ → ℕ → List LogName → Option WorldData → Type 0
AreCleared reported count names o = IfSome o (λ x. IsTrue x.tells → (version id : ℕ) → version < reported
    → Contains (take count names) (name.Staged version id) → stands x (name.Staged version id) ≡ false)
