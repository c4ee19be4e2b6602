-- What a catalogue turn answers and leaves.
use Rattle.std.specs.Prelude.{◌≡◌, ℕ, ◌+◌, ◌<◌, ◌≤◌, ℤ, List, [], ◌∷◌, ◌++◌, length}
use Rattle.commit_catalog.specs.declared.Limits.{Limits}
use Rattle.commit_catalog.specs.declared.Entry.{Entry}
use Rattle.commit_catalog.specs.declared.Commits.{Commits}
use Rattle.commit_catalog.specs.declared.Ratify.{Ratify}
use Rattle.commit_catalog.specs.declared.Ratify.TheVariants.{Done, Lost, Full, Backlog}
use Rattle.commit_catalog.specs.Records.{staged_of}

-- the version is ratified already
pub record IsLost (count version latest : ℕ) : Type 0 where
  pub below : version < count
  pub last : latest + 1 ≡ count

-- it is not, and there are as many versions as the limit allows
pub record IsFull (limits : Limits) (count version latest : ℕ) : Type 0 where
  pub next : count ≤ version
  pub at_limit : count ≡ limits.versions
  pub last : latest + 1 ≡ count

-- it is not and another version is allowed, and as many are unpublished as the limit allows
pub record IsBacklog (limits : Limits) (count published version latest reported : ℕ) : Type 0 where
  pub next : count ≤ version
  pub allowed : count < limits.versions
  pub at_limit : count ≡ published + limits.unpublished
  pub last : latest + 1 ≡ count
  pub told : reported ≡ published

-- none of these holds
pub record IsFree (limits : Limits) (count published version : ℕ) : Type 0 where
  pub next : count ≤ version
  pub allowed : count < limits.versions
  pub below : count < published + limits.unpublished

-- The answer to the ratification of a version, where `count` versions are ratified and `published` of
-- them are reported. No two of the cases hold together (`HasOneAnswer`), so each answer comes exactly where its case holds.
abbrev pub RatifyAnswers : Limits → ℕ → ℕ → ℕ → Ratify → Type 0
RatifyAnswers limits count published version (Lost latest) = IsLost count version latest
RatifyAnswers limits count published version (Full latest) = IsFull limits count version latest
RatifyAnswers limits count published version (Backlog latest reported) = IsBacklog limits count published version latest reported
RatifyAnswers limits count published version Done = IsFree limits count published version

-- no two answers hold of the same ratification
abbrev pub HasOneAnswer : Type 0
HasOneAnswer = (limits : Limits) (count published version : ℕ) (a b : Ratify)
    → RatifyAnswers limits count published version a → RatifyAnswers limits count published version b → a ≡ b

-- the records after that answer: one more at the end after `Done`, else the same
abbrev pub records_after : Ratify → List Entry → ℕ → ℤ → List Entry
records_after Done records id time = records ++ (record { id = id; time = time }) ∷ []
records_after (Lost latest) records id time = records
records_after (Full latest) records id time = records
records_after (Backlog latest reported) records id time = records

-- what the catalogue tells of itself in one turn
pub record TellsCommits (records : List Entry) (published : ℕ) (c : Commits) : Type 0 where
  pub count : c.count ≡ length records
  pub reported : c.reported ≡ published
  pub staged : c.staged.items ≡ staged_of records published
