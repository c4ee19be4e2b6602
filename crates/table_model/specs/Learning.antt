-- What each call teaches its caller: for each answer what it knows afterwards. The field `same` says that all that
-- it does not name stays.
use Rattle.std.specs.Prelude.{◌≡◌, ◌<◌, ◌≤◌, ◌+◌, ◌-◌, ◌==◌, ◌↔◌, ◌⊎◌, ℕ, ℤ, pos, List, [], ◌∷◌, ◌++◌, length, Bool, IsTrue, cond, Contains, filter_map, Result, Ok, Err, Option, Some, None, IfSome, slice_index_or, Vec}
use Rattle.std.specs.declared.alloc.Global.{Global}
use Rattle.log_names.specs.declared.LogName.{LogName}
use Rattle.log_names.specs.declared.LogName.TheVariants as name
use Rattle.commit_catalog.specs.declared.Commits.{Commits}
use Rattle.commit_catalog.specs.declared.Ratified.{Ratified}
use Rattle.commit_catalog.specs.declared.Ratify.{Ratify}
use Rattle.commit_catalog.specs.declared.Ratify.TheVariants as ratify
use Rattle.object_store.specs.declared.store.Put.{Put}
use Rattle.object_store.specs.declared.store.Bytes.{Bytes}
use Rattle.object_store.specs.declared.store.Bytes.TheVariants as bytes
use Rattle.object_store.specs.declared.store.Gone.{Gone}
use Rattle.table_model.specs.declared.answers.Spot.{Spot}
use Rattle.table_model.specs.declared.answers.Spot.TheVariants as spot
use Rattle.table_model.specs.declared.answers.StepFault.{StepFault}
use Rattle.table_model.specs.declared.answers.StepFault.TheVariants.{Fault, Memory}
use Rattle.table_model.specs.declared.answers.Looked.{Looked}
use Rattle.table_model.specs.declared.answers.Staged.{Staged}
use Rattle.table_model.specs.declared.answers.Staged.TheVariants as staged
use Rattle.table_model.specs.declared.known.Mark.{Mark}
use Rattle.table_model.specs.declared.known.Clearing.{Clearing}
use Rattle.table_model.specs.declared.known.Try.{Try}
use Rattle.table_model.specs.declared.known.Refusal.{Refusal}
use Rattle.table_model.specs.declared.known.Refusal.TheVariants as refusal
use Rattle.table_model.specs.Log.{Commit, commit_at, commit_time}
use Rattle.table_model.specs.Knowledge.{Knowledge, StartsWith}
use Rattle.table_model.specs.Conditions.{triple}

-- Refusals.

-- the store failed at a spot
abbrev pub fault_noted : Spot → Knowledge → Knowledge
fault_noted at k = record k { failed = k.failed ++ at ∷ []; faults = k.faults + 1 }

-- want of memory alone
abbrev pub IsOnlyMemory : Knowledge → StepFault → Knowledge → Type 0
IsOnlyMemory k Memory m = m ≡ k
IsOnlyMemory k (Fault at) m = ⊥

-- a fault at this spot, or want of memory
abbrev pub IsFaultAt : Spot → Knowledge → StepFault → Knowledge → Type 0
IsFaultAt where_at k Memory m = m ≡ k
IsFaultAt where_at k (Fault at) m = (at ≡ where_at) × (m ≡ fault_noted at k)

-- the same, where the file may have been put all the same
abbrev pub IsFaultPutting : LogName → Knowledge → StepFault → Knowledge → Type 0
IsFaultPutting n k Memory m = m ≡ k
IsFaultPutting n k (Fault at) m = (at ≡ spot.File n) × (m ≡ record (fault_noted at k) { put = k.put ++ n ∷ [] })

-- The log at this turn: what was seen begins it, and it is at least as long as the caller was told.
pub record SeesLog (k m : Knowledge) : Type 0 where
  pub front : StartsWith m.seen k.seen
  pub told : k.told ≤ length m.seen

-- `commits`: the ratified versions from the reported number up, as the log has them

abbrev pub no_ratified : Ratified
no_ratified = record { version = 0; id = 0; time = pos 0 }

pub record IsRatifiedAs (tells : Bool) (r : Ratified) (version : ℕ) (c : Commit) : Type 0 where
  pub version_is : r.version ≡ version
  pub id_is : r.id ≡ c.id
  pub time_is : IsTrue tells → r.time ≡ commit_time c.bytes

pub record CommitsLearnt (tells : Bool) (k : Knowledge) (c : Commits) (m : Knowledge) : Type 0 where
  pub same : m ≡ record k { seen = m.seen; published = m.published; reported = c.reported; heard = k.heard ++ c.reported ∷ []; asks = k.asks + 1 }
  pub sees : SeesLog k m
  pub count : c.count ≡ length m.seen
  pub rises : k.reported ≤ c.reported
  pub within : c.reported ≤ c.count
  pub published_before : k.published ≤ m.published
  pub published : c.reported ≤ m.published
  pub staged_length : length c.staged.items + c.reported ≡ c.count
  pub staged : (i : ℕ) → i < length c.staged.items
      → IsRatifiedAs tells (slice_index_or c.staged.items i no_ratified) (c.reported + i) (commit_at m.seen (c.reported + i))
  pub unpublished : IfSome k.terms (λ t. c.count ≤ c.reported + t.limits.unpublished)

abbrev pub LearnsCommits : Bool → Knowledge → Result Commits StepFault → Knowledge → Type 0
LearnsCommits tells k (Ok c) m = CommitsLearnt tells k c m
LearnsCommits tells k (Err e) m = IsOnlyMemory k e m

-- `lookup`: the commit of the version as the log has it, or none where the log is no longer than that

abbrev pub IsFoundAs : Bool → Option Ratified → ℕ → List Commit → Type 0
IsFoundAs tells None version seen = length seen ≤ version
IsFoundAs tells (Some r) version seen = (version < length seen) × IsRatifiedAs tells r version (commit_at seen version)

pub record LookupLearnt (tells : Bool) (version : ℕ) (k : Knowledge) (a : Looked) (m : Knowledge) : Type 0 where
  pub same : m ≡ record k { seen = m.seen; asks = k.asks + 1 }
  pub sees : SeesLog k m
  pub count : a.count ≡ length m.seen
  pub found : IsFoundAs tells a.found version m.seen

abbrev pub LearnsLookup : Bool → ℕ → Knowledge → Result Looked StepFault → Knowledge → Type 0
LearnsLookup tells version k (Ok a) m = LookupLearnt tells version k a m
LearnsLookup tells version k (Err e) m = IsOnlyMemory k e m

-- `list`: the published names are those of the first versions, all known to be published; the checkpoints are marked

abbrev pub mark_of : LogName → Option Mark
mark_of (name.Published version) = None
mark_of (name.Staged version id) = None
mark_of (name.Checkpoint version id) = Some (record { version = version; id = id })
mark_of (name.Parquet version) = None
mark_of name.Other = None

-- the published names are those of the versions below this number
abbrev pub ShowsPublished : List LogName → ℕ → Type 0
ShowsPublished names shown = (version : ℕ) → Contains names (name.Published version) ↔ (version < shown)

pub record ListLearnt (tells : Bool) (k : Knowledge) (names : List LogName) (m : Knowledge) : Type 0 where
  pub same : m ≡ record k { listed = names; published = m.published; marks = k.marks ++ filter_map mark_of names; lists = k.lists + 1 }
  pub published_before : k.published ≤ m.published
  pub shown : ℕ
  pub shows : IsTrue tells → ShowsPublished names shown
  pub published : shown ≤ m.published

abbrev pub LearnsList : Bool → Knowledge → Result (Vec LogName Global) StepFault → Knowledge → Type 0
LearnsList tells k (Ok names) m = ListLearnt tells k names.items m
LearnsList tells k (Err e) m = IsFaultAt spot.Folder k e m

-- `get`

-- the name is a published one, or the staged one of a commit that was seen
abbrev pub IsOfCommit : LogName → List Commit → Type 0
IsOfCommit (name.Published version) seen = Unit {0}
IsOfCommit (name.Staged version id) seen = (version < length seen) × (id ≡ (commit_at seen version).id)
IsOfCommit (name.Checkpoint version id) seen = ⊥
IsOfCommit (name.Parquet version) seen = ⊥
IsOfCommit name.Other seen = ⊥

-- a staged file is noted
abbrev pub kept_after : LogName → List ℕ → Knowledge → Knowledge
kept_after (name.Published version) text k = k
kept_after (name.Staged version id) text k = record k { kept = k.kept ++ triple version id text ∷ [] }
kept_after (name.Checkpoint version id) text k = k
kept_after (name.Parquet version) text k = k
kept_after name.Other text k = k

-- the bytes are those of the commit of that name
abbrev pub IsDue : LogName → List ℕ → List Commit → Type 0
IsDue (name.Published version) text seen = version < length seen → text ≡ (commit_at seen version).bytes
IsDue (name.Staged version id) text seen = version < length seen → id ≡ (commit_at seen version).id → text ≡ (commit_at seen version).bytes
IsDue (name.Checkpoint version id) text seen = Unit {0}
IsDue (name.Parquet version) text seen = Unit {0}
IsDue name.Other text seen = Unit {0}

-- a published name that stands is of a published version
abbrev pub IsShown : LogName → ℕ → Type 0
IsShown (name.Published version) published = version < published
IsShown (name.Staged version id) published = Unit {0}
IsShown (name.Checkpoint version id) published = Unit {0}
IsShown (name.Parquet version) published = Unit {0}
IsShown name.Other published = Unit {0}

pub record WholeLearnt (tells : Bool) (n : LogName) (text : List ℕ) (k m : Knowledge) : Type 0 where
  pub same : m ≡ record (kept_after n text k) { published = m.published; gets = k.gets + 1 }
  pub published_before : k.published ≤ m.published
  pub leaves : ¬ (IsOfCommit n k.seen) → m.published ≡ k.published
  pub published : IsShown n m.published
  pub due : IsTrue tells → IsDue n text m.seen

-- the name is none that is known to stand; a ratified version whose staged file is gone is published
abbrev pub IsMissing : LogName → Knowledge → Knowledge → Type 0
IsMissing (name.Published version) k m = k.published ≤ version
IsMissing (name.Staged version id) k m = version < length k.seen → id ≡ (commit_at k.seen version).id → version < m.published
IsMissing (name.Checkpoint version id) k m = ¬ (Contains k.marks (record { version = version; id = id }))
IsMissing (name.Parquet version) k m = Unit {0}
IsMissing name.Other k m = Unit {0}

pub record AbsentLearnt (tells : Bool) (n : LogName) (k m : Knowledge) : Type 0 where
  pub same : m ≡ record k { published = m.published; absents = k.absents ++ n ∷ []; gets = k.gets + 1 }
  pub published_before : k.published ≤ m.published
  pub leaves : ¬ (IsOfCommit n k.seen) → m.published ≡ k.published
  pub missing : IsTrue tells → IsMissing n k m

abbrev pub LearnsGet : Bool → LogName → Knowledge → Result Bytes StepFault → Knowledge → Type 0
LearnsGet tells n k (Ok (bytes.Whole b)) m = WholeLearnt tells n b.items k m
LearnsGet tells n k (Ok bytes.Absent) m = AbsentLearnt tells n k m
LearnsGet tells n k (Err e) m = IsFaultAt (spot.File n) k e m

-- `stage`

abbrev pub LearnsStage : ℕ → ℕ → List ℕ → Knowledge → Result Staged StepFault → Knowledge → Type 0
LearnsStage version id text k (Ok staged.Done) m =
    m ≡ record k { kept = k.kept ++ triple version id text ∷ []; put = k.put ++ name.Staged version id ∷ [] }
LearnsStage version id text k (Ok staged.Taken) m = m ≡ record k { takens = k.takens ++ name.Staged version id ∷ [] }
LearnsStage version id text k (Err e) m = IsFaultPutting (name.Staged version id) k e m

-- `ratify`

-- the new commit: its bytes are those that the caller knew under this version and id
pub record NewCommit (tells : Bool) (k : Knowledge) (version id : ℕ) (m : Knowledge) : Type 0 where
  pub text : List ℕ
  pub is : m.seen ≡ k.seen ++ record { id = id; bytes = text } ∷ []
  pub known : IsTrue tells → (b : List ℕ) → Contains k.kept (triple version id b) → b ≡ text

pub record RatifiedLearnt (tells : Bool) (k : Knowledge) (version id : ℕ) (m : Knowledge) : Type 0 where
  pub same : m ≡ record k { seen = m.seen; mine = k.mine ++ version ∷ [] }
  pub at_end : version ≡ length k.seen
  pub commit : NewCommit tells k version id m
  pub told : k.told ≤ length m.seen

-- a refused try is one at the version right after all that the caller knew
abbrev pub tries_after : Knowledge → ℕ → Refusal → List Try
tries_after k version answer = k.tries ++ cond (version == length k.seen) (record { version = version; answer = answer } ∷ []) []

pub record LostLearnt (k : Knowledge) (version latest : ℕ) (m : Knowledge) : Type 0 where
  pub same : m ≡ record k { seen = m.seen; tries = tries_after k version refusal.Lost }
  pub sees : SeesLog k m
  pub last : latest + 1 ≡ length m.seen
  pub below : version ≤ latest

pub record FullLearnt (k : Knowledge) (version latest : ℕ) (m : Knowledge) : Type 0 where
  pub same : m ≡ record k { seen = m.seen }
  pub sees : SeesLog k m
  pub last : latest + 1 ≡ length m.seen
  pub next : version ≡ length m.seen
  pub limit : IfSome k.terms (λ t. length m.seen ≡ t.limits.versions)

pub record BacklogLearnt (k : Knowledge) (version latest reported : ℕ) (m : Knowledge) : Type 0 where
  pub same : m ≡ record k { seen = m.seen; published = m.published; reported = reported; tries = tries_after k version refusal.Backlog }
  pub sees : SeesLog k m
  pub last : latest + 1 ≡ length m.seen
  pub next : version ≡ length m.seen
  pub limit : IfSome k.terms (λ t. (length m.seen < t.limits.versions) × (length m.seen ≡ reported + t.limits.unpublished))
  pub rises : k.reported ≤ reported
  pub published_before : k.published ≤ m.published
  pub published : reported ≤ m.published

abbrev pub LearnsRatify : Bool → ℕ → ℕ → Knowledge → Result Ratify StepFault → Knowledge → Type 0
LearnsRatify tells version id k (Ok ratify.Done) m = RatifiedLearnt tells k version id m
LearnsRatify tells version id k (Ok (ratify.Lost latest)) m = LostLearnt k version latest m
LearnsRatify tells version id k (Ok (ratify.Full latest)) m = FullLearnt k version latest m
LearnsRatify tells version id k (Ok (ratify.Backlog latest reported)) m = BacklogLearnt k version latest reported m
LearnsRatify tells version id k (Err e) m = IsOnlyMemory k e m

-- `publish`

pub record PublishedLearnt (version : ℕ) (k m : Knowledge) : Type 0 where
  pub same : m ≡ record k { published = m.published }
  pub published_before : k.published ≤ m.published
  pub published : version < m.published

abbrev pub LearnsPublish : ℕ → Knowledge → Result Put StepFault → Knowledge → Type 0
LearnsPublish version k (Ok answer) m = PublishedLearnt version k m
LearnsPublish version k (Err e) m = IsFaultAt (spot.File (name.Published version)) k e m

-- `report`

pub record ReportedLearnt (count answer : ℕ) (k m : Knowledge) : Type 0 where
  pub same : m ≡ record k { published = m.published; reported = answer }
  pub least : count ≤ answer
  pub rises : k.reported ≤ answer
  pub published_before : k.published ≤ m.published
  pub published : answer ≤ m.published

abbrev pub LearnsReport : ℕ → Knowledge → Result ℕ StepFault → Knowledge → Type 0
LearnsReport count k (Ok answer) m = ReportedLearnt count answer k m
LearnsReport count k (Err e) m = IsOnlyMemory k e m

-- `clear`

abbrev pub LearnsClear : ℕ → ℕ → Knowledge → Result Gone StepFault → Knowledge → Type 0
LearnsClear version id k (Ok answer) m = m ≡ record k { cleared = k.cleared ++ record { name = name.Staged version id; answer = answer } ∷ [] }
LearnsClear version id k (Err e) m = IsFaultAt (spot.File (name.Staged version id)) k e m
