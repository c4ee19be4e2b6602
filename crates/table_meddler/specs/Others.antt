-- The turns of other callers: which ones a world allows, and what they leave.
--     MayMake turn w              the condition of the turn holds in the world
--     Makes turn w x              the turn leads from one world to another, whatever it answers
--     Meets turn fate w x         what becomes of the turn, and what it leaves
--     AreMade turns number w x    those of the turns that stand before the caller's turn of that number, in order
--     AreCutShort turns number w x    the first of them, up to one at which memory was short
use Rattle.std.specs.Prelude.{◌≡◌, ◌<◌, ◌≤◌, ◌==◌, ◌⊎◌, ℕ, ℤ, List, [], ◌∷◌, length, Bool, IsTrue, true, false, Some, IsSome, Result, Ok, Err, Vec}
use Rattle.std.specs.declared.alloc.Global.{Global}
use Rattle.log_names.specs.Texts.{name_text}
use Rattle.log_names.specs.declared.LogName.{LogName}
use Rattle.log_names.specs.declared.LogName.TheVariants as name
use Rattle.commit_catalog.specs.declared.Commits.{Commits}
use Rattle.commit_catalog.specs.declared.Ratify.{Ratify}
use Rattle.object_store.specs.declared.store.Bytes.{Bytes}
use Rattle.object_store.specs.declared.store.Put.{Put}
use Rattle.object_store.specs.declared.store.Gone.{Gone}
use Rattle.table_model.specs.declared.answers.Looked.{Looked}
use Rattle.table_model.specs.declared.answers.Staged.{Staged}
use Rattle.table_model.specs.declared.answers.StepFault.{StepFault}
use Rattle.table_model.specs.declared.answers.StepFault.TheVariants.{Fault, Memory}
use Rattle.table_model.specs.Log.{commit_at, commit_time, IsNextCommit}
use Rattle.table_model.specs.Files.{file_at}
use Rattle.table_model.specs.World.{WorldData, stands, log_of}
use Rattle.table_model.specs.Consistency.{IsConsistent}
use Rattle.table_model.specs.Turns.{CommitsTurn, LookupTurn, ListTurn, GetTurn, StageTurn, RatifyTurn, PublishTurn, ReportTurn, ClearTurn}
use Rattle.table_meddler.specs.declared.foreign.Foreign.{Foreign}
use Rattle.table_meddler.specs.declared.foreign.Turn.{Turn}
use Rattle.table_meddler.specs.declared.foreign.Turn.TheVariants as turn
use Rattle.table_meddler.specs.declared.foreign.Fate.{Fate}
use Rattle.table_meddler.specs.declared.foreign.Fate.TheVariants.{Made, Passed, Untested}

-- Which turns are allowed.

-- all versions below are published
abbrev pub ArePublished : WorldData → ℕ → Type 0
ArePublished w count = (version : ℕ) → version < count → IsTrue (stands w (name.Published version))

-- the staged file of the next version stands, with the text of a next commit of the log, of this time
pub record IsNextIn (w : WorldData) (version id : ℕ) (time : ℤ) : Type 0 where
  pub next_version : version ≡ length w.records
  pub bytes : List ℕ
  pub staged : file_at w.files (name.Staged version id) ≡ Some bytes
  pub next : IsNextCommit (log_of w) bytes
  pub timed : time ≡ commit_time bytes

-- the text is that of the ratified version, of which all below are published
pub record IsCommitOf (w : WorldData) (version : ℕ) (text : List ℕ) : Type 0 where
  pub ratified : version < length w.records
  pub below : ArePublished w version
  pub text_is : text ≡ (commit_at (log_of w) version).bytes

-- the condition of a turn: that some caller may make it who knows all that holds in the world
abbrev pub MayMake : Turn → WorldData → Type 0
MayMake turn.Commits w = Unit {0}
MayMake (turn.Lookup version) w = Unit {0}
MayMake turn.List w = Unit {0}
MayMake (turn.Get n) w = IsSome (name_text n)
MayMake (turn.Stage version id bytes) w = Unit {0}
MayMake (turn.Ratify version id time) w = IsNextIn w version id time
MayMake (turn.Publish version bytes) w = IsCommitOf w version bytes.items
MayMake (turn.Report count) w = ArePublished w count
MayMake (turn.Clear version id) w = version < w.reported

-- What they leave.

-- it was not refused for want of memory
abbrev pub IsAnswered : {A : Type 0} → Result A StepFault → Type 0
IsAnswered (Ok a) = Unit {0}
IsAnswered (Err (Fault at)) = Unit {0}
IsAnswered (Err Memory) = ⊥

-- what is done whatever the store answers; want of memory is none of its answers
abbrev pub Makes : Turn → WorldData → WorldData → Type 0
Makes turn.Commits w x = (r : Result Commits StepFault) × IsAnswered r × CommitsTurn w r x
Makes (turn.Lookup version) w x = (r : Result Looked StepFault) × IsAnswered r × LookupTurn version w r x
Makes turn.List w x = (r : Result (Vec LogName Global) StepFault) × IsAnswered r × ListTurn w r x
Makes (turn.Get n) w x = (r : Result Bytes StepFault) × IsAnswered r × GetTurn n w r x
Makes (turn.Stage version id bytes) w x = (r : Result Staged StepFault) × IsAnswered r × StageTurn version id bytes.items w r x
Makes (turn.Ratify version id time) w x = (r : Result Ratify StepFault) × IsAnswered r × RatifyTurn version id time w r x
Makes (turn.Publish version bytes) w x = (r : Result Put StepFault) × IsAnswered r × PublishTurn version bytes.items w r x
Makes (turn.Report count) w x = (r : Result ℕ StepFault) × IsAnswered r × ReportTurn count w r x
Makes (turn.Clear version id) w x = (r : Result Gone StepFault) × IsAnswered r × ClearTurn version id w r x

-- files were read: nothing but the store's count of faults changed, and the world is consistent
pub record IsRead (w x : WorldData) : Type 0 where
  pub tally : w.tally ≤ x.tally
  pub same : x ≡ record w { tally = x.tally }
  pub consistent : IsConsistent x

-- the turn was made in a world that allows it, after files were read to test that
pub record IsMade (t : Turn) (w x : WorldData) : Type 0 where
  pub tested : WorldData
  pub read : IsRead w tested
  pub allowed : IsTrue w.tells → MayMake t tested
  pub made : Makes t tested x

pub record IsPassed (t : Turn) (w x : WorldData) : Type 0 where
  pub read : IsRead w x
  pub refused : IsTrue w.tells → ¬ (MayMake t w)

-- the store failed while the condition was tested
pub record IsUntested (w x : WorldData) : Type 0 where
  pub read : IsRead w x
  pub failed : w.tally < x.tally

-- Of a store that tells what it holds: a turn is made only where its condition holds, and passed over only where it does not. It is left out
-- only where the store failed.
abbrev pub Meets : Turn → Fate → WorldData → WorldData → Type 0
Meets t Made w x = IsMade t w x
Meets t Passed w x = IsPassed t w x
Meets t Untested w x = IsUntested w x

-- a turn that stands before another turn of the caller is not made
abbrev pub IsDone : Bool → Turn → WorldData → WorldData → Type 0
IsDone true t w x = (fate : Fate) × Meets t fate w x
IsDone false t w x = x ≡ w

unfoldable pub AreMade : List Foreign → ℕ → WorldData → WorldData → Type 0
AreMade [] number w x = x ≡ w
AreMade (f ∷ fs) number w x = (y : WorldData) × IsDone (f.before == number) f.turn w y × AreMade fs number y x

-- memory was short at a turn of this number: those before it were made, and of it no more was done than reading
unfoldable pub AreCutShort : List Foreign → ℕ → WorldData → WorldData → Type 0
AreCutShort [] number w x = ⊥
AreCutShort (f ∷ fs) number w x = ((f.before ≡ number) × IsRead w x) ⊎ ((y : WorldData) × IsDone (f.before == number) f.turn w y × AreCutShort fs number y x)
