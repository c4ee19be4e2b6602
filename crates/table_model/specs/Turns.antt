-- What one turn answers and leaves, for each call: a relation between the world before, the answer and the world after.
use Rattle.std.specs.Prelude.{◌≡◌, ◌<◌, ◌+◌, ◌⊎◌, ℕ, ℤ, List, length, map, filter, max, cond, IsTrue, Bool, true, false, Result, Ok, Err, Option, Some, None, Vec}
use Rattle.std.specs.declared.alloc.Global.{Global}
use Rattle.log_names.specs.declared.LogName.{LogName}
use Rattle.log_names.specs.declared.LogName.TheVariants as name
use Rattle.log_names.specs.Reading.{name_of}
use Rattle.commit_catalog.specs.declared.Commits.{Commits}
use Rattle.commit_catalog.specs.declared.Ratify.{Ratify}
use Rattle.commit_catalog.specs.declared.Entry.{Entry}
use Rattle.commit_catalog.specs.Records.{ratified_at}
use Rattle.commit_catalog.specs.Ratifying.{RatifyAnswers, records_after, TellsCommits}
use Rattle.object_store.specs.Files.{Files, names_of}
use Rattle.object_store.specs.declared.store.Put.{Put}
use Rattle.object_store.specs.declared.store.Put.TheVariants as put
use Rattle.object_store.specs.declared.store.Bytes.{Bytes}
use Rattle.object_store.specs.declared.store.Bytes.TheVariants as bytes
use Rattle.object_store.specs.declared.store.Gone.{Gone}
use Rattle.object_store.specs.declared.store.Gone.TheVariants as gone
use Rattle.table_model.specs.declared.answers.Spot.{Spot}
use Rattle.table_model.specs.declared.answers.Spot.TheVariants as spot
use Rattle.table_model.specs.declared.answers.StepFault.{StepFault}
use Rattle.table_model.specs.declared.answers.StepFault.TheVariants.{Fault, Memory}
use Rattle.table_model.specs.declared.answers.Looked.{Looked}
use Rattle.table_model.specs.declared.answers.Staged.{Staged}
use Rattle.table_model.specs.declared.answers.Staged.TheVariants as staged
use Rattle.table_model.specs.Files.{file_at}
use Rattle.table_model.specs.World.{WorldData, entry_at, stands, told_put, told_drop}

-- the store failed: its count rose by one, and all else is as before
pub record IsFailed (w x : WorldData) : Type 0 where
  pub rose : x.tally ≡ w.tally + 1
  pub same : x ≡ record w { tally = x.tally }

-- the store failed: its count rose by one, and the files are as before, or as if the call had been done whole
pub record IsInDoubt (w done x : WorldData) : Type 0 where
  pub rose : x.tally ≡ w.tally + 1
  pub files : (x ≡ record w { tally = x.tally }) ⊎ (x ≡ record done { tally = x.tally })

-- a refused turn that reaches no store: want of memory alone, and nothing changed
abbrev pub IsRefused : WorldData → StepFault → WorldData → Type 0
IsRefused w Memory x = x ≡ w
IsRefused w (Fault at) x = ⊥

-- a refused turn that reads the store at a spot
abbrev pub IsFailedRead : Spot → WorldData → StepFault → WorldData → Type 0
IsFailedRead where_at w Memory x = x ≡ w
IsFailedRead where_at w (Fault at) x = (at ≡ where_at) × IsFailed w x

-- a refused turn that changes the store at a spot, of which `done` is the world when it is done
abbrev pub IsFailedWrite : Spot → WorldData → WorldData → StepFault → WorldData → Type 0
IsFailedWrite where_at w done Memory x = x ≡ w
IsFailedWrite where_at w done (Fault at) x = (at ≡ where_at) × IsInDoubt w done x

-- the catalogue now
abbrev pub CommitsTurn : WorldData → Result Commits StepFault → WorldData → Type 0
CommitsTurn w (Ok c) x = TellsCommits w.records w.reported c × (x ≡ w)
CommitsTurn w (Err e) x = IsRefused w e x

-- what the catalogue has of one version, and how many versions there are
pub record Looks (w : WorldData) (version : ℕ) (a : Looked) (x : WorldData) : Type 0 where
  pub found : a.found ≡ ratified_at w.records version
  pub count : a.count ≡ length w.records
  pub same : x ≡ w

abbrev pub LookupTurn : ℕ → WorldData → Result Looked StepFault → WorldData → Type 0
LookupTurn version w (Ok a) x = Looks w version a x
LookupTurn version w (Err e) x = IsRefused w e x

-- the names of the log that stand, in byte order of their texts
abbrev pub is_log_name : LogName → Bool
is_log_name (name.Published version) = true
is_log_name (name.Staged version id) = true
is_log_name (name.Checkpoint version id) = true
is_log_name (name.Parquet version) = true
is_log_name name.Other = false

unfoldable pub listing : Files → List LogName
listing files = filter is_log_name (map name_of (names_of files))

pub record Lists (w : WorldData) (names : List LogName) (x : WorldData) : Type 0 where
  pub names_are : IsTrue w.tells → names ≡ listing w.files
  pub same : x ≡ w

abbrev pub ListTurn : WorldData → Result (Vec LogName Global) StepFault → WorldData → Type 0
ListTurn w (Ok names) x = Lists w names.items x
ListTurn w (Err e) x = IsFailedRead spot.Folder w e x

-- the file, exactly where it stands
pub record Finds (w : WorldData) (n : LogName) (found : Option (List ℕ)) (x : WorldData) : Type 0 where
  pub is : IsTrue w.tells → file_at w.files n ≡ found
  pub same : x ≡ w

abbrev pub found_of : Bytes → Option (List ℕ)
found_of (bytes.Whole b) = Some b.items
found_of bytes.Absent = None

abbrev pub GetTurn : LogName → WorldData → Result Bytes StepFault → WorldData → Type 0
GetTurn n w (Ok b) x = Finds w n (found_of b) x
GetTurn n w (Err e) x = IsFailedRead (spot.File n) w e x

-- whether the version is ratified under this id
abbrev pub IsRatifiedUnder : WorldData → ℕ → ℕ → Type 0
IsRatifiedUnder w version id = (version < length w.records) × ((entry_at w.records version).id ≡ id)

-- the world after a new file was put whole, and after a file was deleted whole
abbrev pub after_put : WorldData → LogName → List ℕ → WorldData
after_put w n text = cond (stands w n) w (told_put w n text)

pub record StagesNew (w : WorldData) (version id : ℕ) (text : List ℕ) (x : WorldData) : Type 0 where
  pub absent : IsTrue w.tells → stands w (name.Staged version id) ≡ false
  pub unratified : ¬ (IsRatifiedUnder w version id)
  pub done : x ≡ told_put w (name.Staged version id) text

pub record FindsStagedName (w : WorldData) (version id : ℕ) (x : WorldData) : Type 0 where
  pub taken : IsTrue w.tells → IsTrue (stands w (name.Staged version id)) ⊎ IsRatifiedUnder w version id
  pub same : x ≡ w

pub record FailsToStage (w : WorldData) (version id : ℕ) (text : List ℕ) (x : WorldData) : Type 0 where
  pub unratified : ¬ (IsRatifiedUnder w version id)
  pub doubt : IsInDoubt w (after_put w (name.Staged version id) text) x

-- `Taken` exactly where the name stands, or where its version is ratified under its id; else the name stands with these bytes
abbrev pub StageTurn : ℕ → ℕ → List ℕ → WorldData → Result Staged StepFault → WorldData → Type 0
StageTurn version id text w (Ok staged.Done) x = StagesNew w version id text x
StageTurn version id text w (Ok staged.Taken) x = FindsStagedName w version id x
StageTurn version id text w (Err Memory) x = x ≡ w
StageTurn version id text w (Err (Fault at)) x =
    (at ≡ spot.File (name.Staged version id)) × FailsToStage w version id text x

-- the catalogue's answer, and one record more at the end after `Done`
pub record Ratifies (w : WorldData) (version id : ℕ) (time : ℤ) (a : Ratify) (x : WorldData) : Type 0 where
  pub answer : RatifyAnswers w.limits (length w.records) w.reported version a
  pub after : x ≡ record w { records = records_after a w.records id time }

abbrev pub RatifyTurn : ℕ → ℕ → ℤ → WorldData → Result Ratify StepFault → WorldData → Type 0
RatifyTurn version id time w (Ok a) x = Ratifies w version id time a x
RatifyTurn version id time w (Err e) x = IsRefused w e x

-- a new file, `There` exactly where it stands
pub record PutsNew (w : WorldData) (n : LogName) (text : List ℕ) (x : WorldData) : Type 0 where
  pub absent : IsTrue w.tells → stands w n ≡ false
  pub done : x ≡ told_put w n text

pub record FindsThere (w : WorldData) (n : LogName) (x : WorldData) : Type 0 where
  pub there : IsTrue w.tells → IsTrue (stands w n)
  pub same : x ≡ w

abbrev pub PublishTurn : ℕ → List ℕ → WorldData → Result Put StepFault → WorldData → Type 0
PublishTurn version text w (Ok put.Done) x = PutsNew w (name.Published version) text x
PublishTurn version text w (Ok put.There) x = FindsThere w (name.Published version) x
PublishTurn version text w (Err e) x =
    IsFailedWrite (spot.File (name.Published version)) w (after_put w (name.Published version) text) e x

-- the reported number becomes the larger of it and the count, and is the answer
pub record Reports (w : WorldData) (count answer : ℕ) (x : WorldData) : Type 0 where
  pub larger : answer ≡ max w.reported count
  pub after : x ≡ record w { reported = answer }

abbrev pub ReportTurn : ℕ → WorldData → Result ℕ StepFault → WorldData → Type 0
ReportTurn count w (Ok n) x = Reports w count n x
ReportTurn count w (Err e) x = IsRefused w e x

-- `Absent` exactly where the name does not stand; else it stands no more
pub record Deletes (w : WorldData) (n : LogName) (x : WorldData) : Type 0 where
  pub stood : IsTrue w.tells → IsTrue (stands w n)
  pub done : x ≡ told_drop w n

pub record FindsAbsent (w : WorldData) (n : LogName) (x : WorldData) : Type 0 where
  pub absent : IsTrue w.tells → stands w n ≡ false
  pub same : x ≡ w

abbrev pub ClearTurn : ℕ → ℕ → WorldData → Result Gone StepFault → WorldData → Type 0
ClearTurn version id w (Ok gone.Done) x = Deletes w (name.Staged version id) x
ClearTurn version id w (Ok gone.Absent) x = FindsAbsent w (name.Staged version id) x
ClearTurn version id w (Err e) x =
    IsFailedWrite (spot.File (name.Staged version id)) w (told_drop w (name.Staged version id)) e x

-- a turn of a caller whose world is told
abbrev pub TellsTurn : (WorldData → WorldData → Type 0) → Option WorldData → Option WorldData → Type 0
TellsTurn turn None x = x ≡ None
TellsTurn turn (Some w) (Some x) = turn w x
TellsTurn turn (Some w) None = ⊥
