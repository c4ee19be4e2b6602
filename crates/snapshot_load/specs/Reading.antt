-- What the turns of a load are, and what they leave.
use Rattle.std.specs.Prelude.{◌≡◌, ◌<◌, ◌≤◌, ◌+◌, ◌*◌, ◌++◌, ◌∷◌, [], ℕ, Bool, IsTrue, All, length, slice_index_or}
use Rattle.commit_catalog.specs.declared.Commits.{Commits}
use Rattle.table_model.specs.declared.answers.Spot.TheVariants as spot
use Rattle.table_model.specs.Log.{commit_at}
use Rattle.table_model.specs.Knowledge.{Knowledge, StartsWith}
use Rattle.table_model.specs.Learning.{no_ratified}
use Rattle.snapshot_load.specs.declared.reading.CommitFile.{CommitFile}
use Rattle.snapshot_load.specs.declared.reading.Place.{Place}
use Rattle.snapshot_load.specs.declared.reading.Place.TheVariants as place
use Rattle.snapshot_load.specs.Causes.{IsFileName}

-- the staged files that became known are of versions below this number
pub record KeepsBelow (count : ℕ) (k m : Knowledge) : Type 0 where
  pub kept : StartsWith m.kept k.kept
  pub below : All (λ t. t.version < count) kept.rest

-- at most so many turns, each of which reads a file of a ratified version: no other part of the knowledge changed
pub record OnlyReads (reads : ℕ) (k m : Knowledge) : Type 0 where
  pub same : m ≡ record k { published = m.published; kept = m.kept; absents = m.absents; gets = m.gets; failed = m.failed; faults = m.faults }
  pub gets : m.gets ≤ k.gets + reads
  pub kept : KeepsBelow (length k.seen) k m

-- at most one turn reads the catalogue, so many list the folder, and two read a file for each of so many versions; all that the caller did itself stays: its own versions, what it staged, tried, cleared
pub record OnlyLoads (lists versions : ℕ) (k m : Knowledge) : Type 0 where
  pub same : m ≡ record k {
    seen = m.seen;
    published = m.published;
    reported = m.reported;
    kept = m.kept;
    marks = m.marks;
    listed = m.listed;
    absents = m.absents;
    failed = m.failed;
    heard = m.heard;
    asks = m.asks;
    lists = m.lists;
    gets = m.gets;
    faults = m.faults;
  }
  pub asks : m.asks ≤ k.asks + 1
  pub lists_most : m.lists ≤ k.lists + lists
  pub gets : m.gets ≤ k.gets + 2 * versions
  pub kept : KeepsBelow (length m.seen) k m

-- the catalogue was read once, and what was seen then is as long as all that was told before
pub record HasAsked (k m : Knowledge) : Type 0 where
  pub asks : m.asks ≡ k.asks + 1
  pub heard : m.heard ≡ k.heard ++ m.reported ∷ []
  pub told : k.told ≤ length m.seen

-- what a catalogue turn answered still holds of what is known
pub record IsCatalogue (c : Commits) (k : Knowledge) : Type 0 where
  pub count : c.count ≡ length k.seen
  pub published : c.reported ≤ k.published
  pub staged_length : length c.staged.items + c.reported ≡ c.count
  pub ids : (i : ℕ) → i < length c.staged.items
      → (slice_index_or c.staged.items i no_ratified).id ≡ (commit_at k.seen (c.reported + i)).id

-- where the commit of a version is read first: its published file, which stands, or its staged file
abbrev pub IsPlaceOf : Bool → Knowledge → ℕ → Place → Type 0
IsPlaceOf tells k version place.Published = IsTrue tells → version < k.published
IsPlaceOf tells k version (place.Staged id) = id ≡ (commit_at k.seen version).id

-- the file of a version, with its commit
pub record IsFileOf (tells : Bool) (k : Knowledge) (version : ℕ) (f : CommitFile) : Type 0 where
  pub text : IsTrue tells → f.bytes.items ≡ (commit_at k.seen version).bytes
  pub named : IsFileName k.seen version (spot.File f.name)
