-- Why a load or the reading of a version was refused.
use Rattle.std.specs.Prelude.{◌≡◌, ◌<◌, ◌+◌, ◌⊎◌, ◌<ℤ◌, ℕ, ℤ, List, [], Bool, IsTrue, Contains, length, Result, Ok, Err, Option, None}
use Rattle.log_names.specs.declared.LogName.TheVariants as name
use Rattle.table_model.specs.declared.answers.Spot.{Spot}
use Rattle.table_model.specs.declared.answers.Spot.TheVariants as spot
use Rattle.table_model.specs.Log.{Commit, commit_at, commit_time}
use Rattle.table_model.specs.Knowledge.{Knowledge, StartsWith}
use Rattle.table_model.specs.declared.snapshot.Snapshot.{Snapshot}
use Rattle.snapshot_load.specs.declared.errors.LoadError.{LoadError}
use Rattle.snapshot_load.specs.declared.errors.LoadError.TheVariants.{NoTable, AfterLatest, BeforeFirst, Fault, Memory}

-- the store failed at this spot: the count of faults rose, and the spot is among those that were gained
pub record FailedAt (at : Spot) (k m : Knowledge) : Type 0 where
  pub rose : k.faults < m.faults
  pub gained : StartsWith m.failed k.failed
  pub noted : Contains gained.rest at

-- the published or the staged file of a ratified version
abbrev pub IsFileName : List Commit → ℕ → Spot → Type 0
IsFileName seen version at =
    (at ≡ spot.File (name.Published version)) ⊎ (at ≡ spot.File (name.Staged version (commit_at seen version).id))

-- a store that does not tell what it holds lacks the file of a ratified version, or has another text in it
pub record IsUntold (tells : Bool) (at : Spot) (seen : List Commit) : Type 0 where
  pub untold : ¬ (IsTrue tells)
  pub version : ℕ
  pub ratified : version < length seen
  pub file : IsFileName seen version at

abbrev pub FaultCause : Bool → Spot → Knowledge → Knowledge → Type 0
FaultCause tells at k m = FailedAt at k m ⊎ IsUntold tells at m.seen

-- a reading of versions that are known to be ratified is refused by a fault or for want of memory alone
abbrev pub ReadCause : Bool → LoadError → Knowledge → Knowledge → Type 0
ReadCause tells NoTable k m = ⊥
ReadCause tells (AfterLatest version latest) k m = ⊥
ReadCause tells (BeforeFirst first latest) k m = ⊥
ReadCause tells (Fault at) k m = FaultCause tells at k m
ReadCause tells Memory k m = Unit {0}

-- a load of the last version: `NoTable` where its catalogue turn found no commit; a fault where it found one; want of memory before that turn, or where
-- it found one
abbrev pub LoadCause : Bool → LoadError → Knowledge → Knowledge → Type 0
LoadCause tells NoTable k m = m.seen ≡ []
LoadCause tells (AfterLatest version latest) k m = ⊥
LoadCause tells (BeforeFirst first latest) k m = ⊥
LoadCause tells (Fault at) k m = FaultCause tells at k m × (0 < length m.seen)
LoadCause tells Memory k m = k.asks < m.asks → 0 < length m.seen

-- a fact of every answer but want of memory
abbrev pub UnlessMemory : {A : Type 0} → Result A LoadError → Type 0 → Type 0
UnlessMemory (Ok answer) P = P
UnlessMemory (Err NoTable) P = P
UnlessMemory (Err (AfterLatest version latest)) P = P
UnlessMemory (Err (BeforeFirst first latest)) P = P
UnlessMemory (Err (Fault at)) P = P
UnlessMemory (Err Memory) P = Unit {0}

-- a fault is answered: the caller's count of faults rose by one; it stayed only where the store does not tell what it holds
abbrev pub CountsFault : Bool → Knowledge → Knowledge → Type 0
CountsFault tells k m = (m.faults ≡ k.faults + 1) ⊎ ((¬ (IsTrue tells)) × (m.faults ≡ k.faults))

-- after every other answer it is as before
abbrev pub CountsError : Bool → Knowledge → LoadError → Knowledge → Type 0
CountsError tells k NoTable m = m.faults ≡ k.faults
CountsError tells k (AfterLatest version latest) m = m.faults ≡ k.faults
CountsError tells k (BeforeFirst first latest) m = m.faults ≡ k.faults
CountsError tells k (Fault at) m = CountsFault tells k m
CountsError tells k Memory m = m.faults ≡ k.faults

abbrev pub CountsFaults : {A : Type 0} → Bool → Knowledge → Result A LoadError → Knowledge → Type 0
CountsFaults tells k (Ok answer) m = m.faults ≡ k.faults
CountsFaults tells k (Err e) m = CountsError tells k e m

-- a load of an asked version, or of what follows from one: `AfterLatest` where the last version is below it, a fault where the version was ratified, and
-- want of memory before the catalogue turn, or where it was ratified
abbrev pub VersionCause : Bool → ℕ → LoadError → Knowledge → Knowledge → Type 0
VersionCause tells asked NoTable k m = m.seen ≡ []
VersionCause tells asked (AfterLatest version latest) k m = (version ≡ asked) × (latest < asked) × (latest + 1 ≡ length m.seen)
VersionCause tells asked (BeforeFirst first latest) k m = ⊥
VersionCause tells asked (Fault at) k m = FaultCause tells at k m × (asked < length m.seen)
VersionCause tells asked Memory k m = k.asks < m.asks → asked < length m.seen

-- the time asked is before that of version 0
pub record IsBeforeFirst (tells : Bool) (asked first : ℤ) (latest : ℕ) (seen : List Commit) : Type 0 where
  pub last : latest + 1 ≡ length seen
  pub first_is : IsTrue tells → first ≡ commit_time (commit_at seen 0).bytes
  pub before : IsTrue tells → asked <ℤ first

-- a load by time: `BeforeFirst` where that of version 0 is after it
abbrev pub TimeCause : Bool → ℤ → LoadError → Knowledge → Knowledge → Type 0
TimeCause tells asked NoTable k m = m.seen ≡ []
TimeCause tells asked (AfterLatest version latest) k m = ⊥
TimeCause tells asked (BeforeFirst first latest) k m = IsBeforeFirst tells asked first latest m.seen
TimeCause tells asked (Fault at) k m = FaultCause tells at k m × (0 < length m.seen)
TimeCause tells asked Memory k m = k.asks < m.asks → 0 < length m.seen

-- the versions of which a file may be read after the time is found, of a log of so many
abbrev pub versions_read : Result Snapshot LoadError → ℕ → ℕ
versions_read (Ok s) count = s.version + 1
versions_read (Err NoTable) count = 0
versions_read (Err (AfterLatest version latest)) count = 0
versions_read (Err (BeforeFirst first latest)) count = 1
versions_read (Err (Fault at)) count = count
versions_read (Err Memory) count = count

-- no version was found at a time, and the time of version 0 was read
pub record IsNoneFound (tells : Bool) (found : Option ℕ) (first : ℤ) (latest : ℕ) (seen : List Commit) : Type 0 where
  pub none : found ≡ None
  pub last : latest + 1 ≡ length seen
  pub first_is : IsTrue tells → first ≡ commit_time (commit_at seen 0).bytes

-- the reading of the version that was found at a time, or of version 0 where none was found
abbrev pub FoundCause : Bool → Option ℕ → LoadError → Knowledge → Knowledge → Type 0
FoundCause tells found NoTable k m = ⊥
FoundCause tells found (AfterLatest version latest) k m = ⊥
FoundCause tells found (BeforeFirst first latest) k m = IsNoneFound tells found first latest m.seen
FoundCause tells found (Fault at) k m = FaultCause tells at k m
FoundCause tells found Memory k m = Unit {0}
