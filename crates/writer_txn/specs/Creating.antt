-- What an answer of a create says of the log: it stands in the log as it was seen at the answer, and in every longer one.
use Rattle.std.specs.Prelude.{◌≡◌, ◌<◌, ℕ, ℤ, List, [], length, Bool, IsTrue, Option, Some, None, Result, Ok, Err, ⊤}
use Rattle.action_json.specs.Commit.{canonical_text}
use Rattle.table_rules.specs.declared.broken.Broken.{Broken}
use Rattle.table_rules.specs.Broken.{first_broken}
use Rattle.staged_commit.specs.declared.create.Create.{Create}
use Rattle.staged_commit.specs.Composed.{composed_create}
use Rattle.table_model.specs.Log.{Commit, commit_at}
use Rattle.writer_txn.specs.declared.answers.Written.{Written}
use Rattle.writer_txn.specs.declared.answers.Written.TheVariants as written
use Rattle.writer_txn.specs.declared.errors.WriteError.{WriteError}
use Rattle.writer_txn.specs.declared.errors.WriteError.TheVariants as failed

-- the first commit is the composed one, under the last id and at the last reading of the clock
pub record IsFirstCommit (tells : Bool) (create : Create) (version : ℕ) (base : Option ℕ) (time reading : ℤ) (last : ℕ) (log : List Commit) : Type 0 where
  pub version_is : version ≡ 0
  pub base_is : base ≡ None
  pub time_is : time ≡ reading
  pub ratified : 0 < length log
  pub id : (commit_at log 0).id ≡ last
  pub text : IsTrue tells → (commit_at log 0).bytes ≡ canonical_text (composed_create create last time)

-- the composed commit breaks this rule first, as the first commit of a table
pub record IsBrokenCreate (create : Create) (base : Option ℕ) (why : Broken) (reading : ℤ) (last : ℕ) : Type 0 where
  pub base_is : base ≡ None
  pub rule : first_broken [] (composed_create create last reading) ≡ Some why

-- the text of the composed commit has so many bytes
pub record IsLongCreate (create : Create) (base : Option ℕ) (bytes : ℕ) (reading : ℤ) (last : ℕ) : Type 0 where
  pub base_is : base ≡ None
  pub bytes_are : bytes ≡ length (canonical_text (composed_create create last reading))

-- the name is that of version 0 under the last id
pub record IsNameOfCreate (base : Option ℕ) (version id last : ℕ) : Type 0 where
  pub base_is : base ≡ None
  pub version_is : version ≡ 0
  pub id_is : id ≡ last

-- what each answer of a create says of the log
abbrev pub CreateStands : Bool → Create → Result Written WriteError → ℤ → ℕ → List Commit → Type 0
CreateStands tells create (Ok (written.Committed version base time)) reading last log = IsFirstCommit tells create version base time reading last log
CreateStands tells create (Ok (written.Already recorded latest)) reading last log = ⊥
CreateStands tells create (Err failed.NoTable) reading last log = ⊥
CreateStands tells create (Err (failed.Exists latest)) reading last log = latest < length log
CreateStands tells create (Err (failed.Broken base why)) reading last log = IsBrokenCreate create base why reading last
CreateStands tells create (Err (failed.Conflict base winner rule key vector latest)) reading last log = ⊥
CreateStands tells create (Err (failed.Contended attempts latest)) reading last log = ⊥
CreateStands tells create (Err (failed.Full latest)) reading last log = ⊥
CreateStands tells create (Err (failed.TimeEnd base end)) reading last log = ⊥
CreateStands tells create (Err (failed.TooLarge base bytes)) reading last log = IsLongCreate create base bytes reading last
CreateStands tells create (Err (failed.Taken base version id)) reading last log = IsNameOfCreate base version id last
CreateStands tells create (Err (failed.Fault at)) reading last log = ⊤
CreateStands tells create (Err failed.Memory) reading last log = ⊤
