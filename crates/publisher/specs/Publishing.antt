-- What publishing, clearing and draining answer, and what they leave of the knowledge.
use Rattle.std.specs.Prelude.{◌≡◌, ◌<◌, ◌≤◌, ◌+◌, ◌-◌, ◌*◌, ◌++◌, ◌∷◌, [], ℕ, List, Bool, All, false, length, map, filter, nat_lt, slice_index_or, Option, None, Some}
use Rattle.log_names.specs.declared.LogName.{LogName}
use Rattle.log_names.specs.declared.LogName.TheVariants as name
use Rattle.commit_catalog.specs.declared.Commits.{Commits}
use Rattle.object_store.specs.declared.store.Gone.{Gone}
use Rattle.object_store.specs.declared.store.Gone.TheVariants as gone
use Rattle.table_model.specs.declared.known.Clearing.{Clearing}
use Rattle.table_model.specs.Log.{commit_at}
use Rattle.table_model.specs.Knowledge.{Knowledge, StartsWith}
use Rattle.table_model.specs.Learning.{no_ratified}
use Rattle.publisher.specs.declared.answers.Published.{Published}
use Rattle.publisher.specs.declared.answers.ClearedAll.{ClearedAll}

-- all versions that were seen are published and reported
pub record HasPublished (p : Published) (m : Knowledge) : Type 0 where
  pub latest : p.latest + 1 ≡ length m.seen
  pub all : p.published ≡ p.latest + 1
  pub published : p.published ≤ m.published
  pub reported : p.published ≤ m.reported

-- whether a name is a staged file that may be cleared: its version is reported
abbrev pub is_clearable : ℕ → LogName → Bool
is_clearable reported (name.Published version) = false
is_clearable reported (name.Staged version id) = nat_lt version reported
is_clearable reported (name.Checkpoint version id) = false
is_clearable reported (name.Parquet version) = false
is_clearable reported name.Other = false

-- how many of these turns removed a file
abbrev pub gone_one : Gone → ℕ → ℕ
gone_one gone.Done n = n + 1
gone_one gone.Absent n = n

abbrev pub gone_in : List Clearing → ℕ
gone_in [] = 0
gone_in (c ∷ cs) = gone_one c.answer (gone_in cs)

-- the staged files of the listing whose version is reported were cleared, in order; the answer counts those that stood
pub record HasCleared (a : ClearedAll) (k m : Knowledge) : Type 0 where
  pub latest : a.latest + 1 ≡ length m.seen
  pub lists : m.lists ≡ k.lists + 1
  pub gained : StartsWith m.cleared k.cleared
  pub names : map (λ c. c.name) gained.rest ≡ filter (is_clearable m.reported) m.listed
  pub count : a.cleared ≡ gone_in gained.rest

-- one turn cleared the staged file of a version; it counts where the file stood
pub record ClearsFile (version id count : ℕ) (k m : Knowledge) : Type 0 where
  pub answer : Gone
  pub same : m ≡ record k { cleared = k.cleared ++ record { name = name.Staged version id; answer = answer } ∷ [] }
  pub count_is : count ≡ gone_one answer 0

-- those of these names that may be cleared were cleared, in order
pub record ClearsNames (reported : ℕ) (listed : List LogName) (count : ℕ) (k m : Knowledge) : Type 0 where
  pub gained : StartsWith m.cleared k.cleared
  pub names : map (λ c. c.name) gained.rest ≡ filter (is_clearable reported) listed
  pub count_is : count ≡ gone_in gained.rest

-- the name of a staged file that may be cleared, by its version and id
abbrev pub IsClearableAs : ℕ → LogName → Option (ℕ × ℕ) → Type 0
IsClearableAs reported n None = is_clearable reported n ≡ false
IsClearableAs reported n (Some p) = (n ≡ name.Staged p.0 p.1) × (p.0 < reported)

-- all that was seen and told before is published and reported
pub record IsDrained (k m : Knowledge) : Type 0 where
  pub seen : length k.seen ≤ m.reported
  pub told : k.told ≤ m.reported
  pub published : m.reported ≤ m.published

-- the catalogue was read once, and this number was heard as the reported one; what was seen is as long as all that was
-- told before
pub record HasAsked (number : ℕ) (k m : Knowledge) : Type 0 where
  pub asks : m.asks ≡ k.asks + 1
  pub heard : m.heard ≡ k.heard ++ number ∷ []
  pub told : k.told ≤ length m.seen

-- the catalogue was read once; then at most two turns read a file for each version from the number heard up
pub record AsksToPublish (k m : Knowledge) : Type 0 where
  pub number : ℕ
  pub asked : HasAsked number k m
  pub rises : k.reported ≤ number
  pub within : number ≤ m.reported
  pub gets : m.gets ≤ k.gets + 2 * (length m.seen - number)

-- the catalogue was read twice, and these two numbers were heard, in order; the second one is the last that is known
pub record AsksTwice (k m : Knowledge) : Type 0 where
  pub first : ℕ
  pub asks : m.asks ≡ k.asks + 2
  pub heard : m.heard ≡ k.heard ++ first ∷ m.reported ∷ []

-- the staged files that became known are of versions below this number
pub record KeepsBelow (count : ℕ) (k m : Knowledge) : Type 0 where
  pub kept : StartsWith m.kept k.kept
  pub below : All (λ t. t.version < count) kept.rest

-- the catalogue was read once, and nothing else was done
pub record OnlyAsks (k m : Knowledge) : Type 0 where
  pub same : m ≡ record k { seen = m.seen; published = m.published; reported = m.reported; heard = m.heard; asks = m.asks }
  pub asks : m.asks ≡ k.asks + 1
  pub heard : m.heard ≡ k.heard ++ m.reported ∷ []

-- turns that read and publish: at most so many read a file; all else stays
pub record OnlyCopies (reads : ℕ) (k m : Knowledge) : Type 0 where
  pub same : m ≡ record k { published = m.published; kept = m.kept; absents = m.absents; gets = m.gets; failed = m.failed; faults = m.faults }
  pub gets : m.gets ≤ k.gets + reads

-- at most one turn reads the catalogue, and at most two read a file for each version that was not known to be reported;
-- all that the caller did itself stays: its own versions, what it staged, tried, cleared
pub record OnlyPublishes (k m : Knowledge) : Type 0 where
  pub same : m ≡ record k {
    seen = m.seen;
    published = m.published;
    reported = m.reported;
    kept = m.kept;
    absents = m.absents;
    failed = m.failed;
    heard = m.heard;
    asks = m.asks;
    gets = m.gets;
    faults = m.faults;
  }
  pub asks : m.asks ≤ k.asks + 1
  pub gets : m.gets ≤ k.gets + 2 * (length m.seen - k.reported)

-- turns that clear; all else stays
pub record OnlyClears (k m : Knowledge) : Type 0 where
  pub same : m ≡ record k { cleared = m.cleared; failed = m.failed; faults = m.faults }

-- at most one turn reads the catalogue and one lists the folder, the others clear
pub record OnlyListsAndClears (k m : Knowledge) : Type 0 where
  pub same : m ≡ record k {
    seen = m.seen;
    published = m.published;
    reported = m.reported;
    marks = m.marks;
    listed = m.listed;
    cleared = m.cleared;
    failed = m.failed;
    heard = m.heard;
    asks = m.asks;
    lists = m.lists;
    faults = m.faults;
  }
  pub asks : m.asks ≤ k.asks + 1
  pub lists_most : m.lists ≤ k.lists + 1

-- what a drain leaves: its own versions, what it staged and tried; at most two turns read the catalogue, one lists the
-- folder, and two read a file for each version that was not known to be reported
pub record OnlyDrains (k m : Knowledge) : Type 0 where
  pub same : m ≡ record k {
    seen = m.seen;
    published = m.published;
    reported = m.reported;
    kept = m.kept;
    marks = m.marks;
    listed = m.listed;
    cleared = m.cleared;
    absents = m.absents;
    failed = m.failed;
    heard = m.heard;
    asks = m.asks;
    lists = m.lists;
    gets = m.gets;
    faults = m.faults;
  }
  pub asks : m.asks ≤ k.asks + 2
  pub lists_most : m.lists ≤ k.lists + 1
  pub gets : m.gets ≤ k.gets + 2 * (length m.seen - k.reported)

-- what a catalogue turn answered still holds of what is known
pub record IsCatalogue (c : Commits) (k : Knowledge) : Type 0 where
  pub count : c.count ≡ length k.seen
  pub within : c.reported ≤ c.count
  pub published : c.reported ≤ k.published
  pub staged_length : length c.staged.items + c.reported ≡ c.count
  pub ids : (i : ℕ) → i < length c.staged.items
      → (slice_index_or c.staged.items i no_ratified).id ≡ (commit_at k.seen (c.reported + i)).id
