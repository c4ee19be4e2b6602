-- What an answer of a write says of the log: it stands in the log as it was seen at the answer, and in every longer one.
-- The base is the last version when the table was loaded.
use Rattle.std.specs.Prelude.{◌≡◌, ◌<◌, ◌≤◌, ◌+◌, ◌≤ℤ◌, ℕ, ℤ, List, length, Bool, IsTrue, Option, Some, None, Result, Ok, Err, ⊤}
use Rattle.action_json.specs.Commit.{canonical_text}
use Rattle.reconcile.specs.Replay.{time_of_log}
use Rattle.table_rules.specs.declared.broken.Broken.{Broken}
use Rattle.table_rules.specs.Broken.{number_at}
use Rattle.commit_timestamps.specs.Times.{next_time, end_of_time}
use Rattle.conflict_rules.specs.declared.intent.Intent.{Intent}
use Rattle.conflict_rules.specs.declared.clash.Rule.{Rule}
use Rattle.staged_commit.specs.Composed.{composed_append}
use Rattle.staged_commit.specs.Rules.{broken_but_time_and_number}
use Rattle.table_model.specs.Log.{Commit, commit_at}
use Rattle.writer_txn.specs.Fronts.{before, IsNewer, first_clash}
use Rattle.writer_txn.specs.declared.answers.Written.{Written}
use Rattle.writer_txn.specs.declared.answers.Written.TheVariants as written
use Rattle.writer_txn.specs.declared.errors.WriteError.{WriteError}
use Rattle.writer_txn.specs.declared.errors.WriteError.TheVariants as failed

-- The version is the composed commit, under the last id, at the next time by the last reading of the clock. It breaks no
-- rule at its base, no commit above that conflicts with it, and its number is above the recorded one.
pub record IsLaterCommit (tells : Bool) (intent : Intent) (version base : ℕ) (time reading : ℤ) (last : ℕ) (log : List Commit) : Type 0 where
  pub ratified : version < length log
  pub from : base < version
  pub id : (commit_at log version).id ≡ last
  pub text : IsTrue tells → (commit_at log version).bytes ≡ canonical_text (composed_append intent last time)
  pub next : IsTrue tells → next_time (time_of_log (before version log)) reading ≡ Some time
  pub number : IsTrue tells → IsNewer intent (before version log)
  pub rules : IsTrue tells → broken_but_time_and_number (before (base + 1) log) (composed_append intent last time) ≡ None
  pub conflicts : IsTrue tells → first_clash intent base version log ≡ None

-- the recorded number of the application is at or above the request's
pub record IsAlready (tells : Bool) (intent : Intent) (recorded : ℤ) (latest : ℕ) (log : List Commit) : Type 0 where
  pub latest_is : latest < length log
  pub reached : intent.number ≤ℤ recorded
  pub number : IsTrue tells → number_at intent.app (before (latest + 1) log) ≡ Some recorded

-- the request's number is above the recorded one at this version
pub record IsNewerAt (tells : Bool) (intent : Intent) (version : ℕ) (log : List Commit) : Type 0 where
  pub ratified : version < length log
  pub number : IsTrue tells → IsNewer intent (before (version + 1) log)

-- the composed commit breaks this rule first at its base, under every id and at every time
pub record IsBrokenWrite (tells : Bool) (intent : Intent) (base : ℕ) (why : Broken) (log : List Commit) : Type 0 where
  pub newer : IsNewerAt tells intent base log
  pub rule : IsTrue tells → (id : ℕ) (time : ℤ) → broken_but_time_and_number (before (base + 1) log) (composed_append intent id time) ≡ Some why

-- the winner is the lowest version above the base that conflicts, with its first rule and the least key: an application, a domain
-- or a path, and beside the path the unique id of the file's vector where it has one
pub record IsConflict (tells : Bool) (intent : Intent) (base winner : ℕ) (rule : Rule) (key : List ℕ) (vector : Option (List ℕ)) (latest : ℕ) (log : List Commit) : Type 0 where
  pub newer : IsNewerAt tells intent latest log
  pub from : base < winner
  pub to : winner ≤ latest
  pub first : IsTrue tells → first_clash intent base (latest + 1) log ≡ Some (winner, (rule, key, vector))

-- a commit above the base or the base itself has the last time that there is: the last one below `version`
pub record IsEndOfTime (tells : Bool) (intent : Intent) (base : ℕ) (end : ℤ) (log : List Commit) : Type 0 where
  pub newer : IsNewerAt tells intent base log
  pub end_is : end ≡ end_of_time
  pub version : ℕ
  pub from : base < version
  pub within : version ≤ length log
  pub time : IsTrue tells → time_of_log (before version log) ≡ Some end

-- the text of the commit that is composed for a version, at its next time by the last reading, has so many bytes
pub record HasLength (intent : Intent) (version bytes : ℕ) (reading : ℤ) (last : ℕ) (log : List Commit) : Type 0 where
  pub time : ℤ
  pub next : next_time (time_of_log (before version log)) reading ≡ Some time
  pub bytes_are : bytes ≡ length (canonical_text (composed_append intent last time))

-- that is so of some version above the base
pub record IsLongWrite (tells : Bool) (intent : Intent) (base bytes : ℕ) (reading : ℤ) (last : ℕ) (log : List Commit) : Type 0 where
  pub newer : IsNewerAt tells intent base log
  pub version : ℕ
  pub from : base < version
  pub within : version ≤ length log
  pub text : IsTrue tells → HasLength intent version bytes reading last log

-- the name is that of a version above the base under the last id
pub record IsNameOfWrite (tells : Bool) (intent : Intent) (base version id last : ℕ) (log : List Commit) : Type 0 where
  pub newer : IsNewerAt tells intent base log
  pub from : base < version
  pub id_is : id ≡ last

-- what each answer of a write says of the log
abbrev pub WriteStands : Bool → Intent → Result Written WriteError → ℤ → ℕ → List Commit → Type 0
WriteStands tells intent (Ok (written.Committed version None time)) reading last log = ⊥
WriteStands tells intent (Ok (written.Committed version (Some base) time)) reading last log = IsLaterCommit tells intent version base time reading last log
WriteStands tells intent (Ok (written.Already recorded latest)) reading last log = IsAlready tells intent recorded latest log
WriteStands tells intent (Err failed.NoTable) reading last log = ⊤
WriteStands tells intent (Err (failed.Exists latest)) reading last log = ⊥
WriteStands tells intent (Err (failed.Broken None why)) reading last log = ⊥
WriteStands tells intent (Err (failed.Broken (Some base) why)) reading last log = IsBrokenWrite tells intent base why log
WriteStands tells intent (Err (failed.Conflict base winner rule key vector latest)) reading last log = IsConflict tells intent base winner rule key vector latest log
WriteStands tells intent (Err (failed.Contended attempts latest)) reading last log = IsNewerAt tells intent latest log
WriteStands tells intent (Err (failed.Full latest)) reading last log = IsNewerAt tells intent latest log
WriteStands tells intent (Err (failed.TimeEnd base end)) reading last log = IsEndOfTime tells intent base end log
WriteStands tells intent (Err (failed.TooLarge None bytes)) reading last log = ⊥
WriteStands tells intent (Err (failed.TooLarge (Some base) bytes)) reading last log = IsLongWrite tells intent base bytes reading last log
WriteStands tells intent (Err (failed.Taken None version id)) reading last log = ⊥
WriteStands tells intent (Err (failed.Taken (Some base) version id)) reading last log = IsNameOfWrite tells intent base version id last log
WriteStands tells intent (Err (failed.Fault at)) reading last log = ⊤
WriteStands tells intent (Err failed.Memory) reading last log = ⊤
