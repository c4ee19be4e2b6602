-- What a caller owes for a turn: said of what it knows.
use Rattle.std.specs.Prelude.{◌≡◌, ◌<◌, ◌≤◌, ℕ, ℤ, List, length, take, Bool, IsTrue, Contains}
use Rattle.table_model.specs.Log.{commit_at, commit_time, IsNextCommit}
use Rattle.table_model.specs.Knowledge.{Knowledge, Triple}

abbrev pub triple : ℕ → ℕ → List ℕ → Triple
triple version id bytes = record { version = version; id = id; bytes = bytes }

-- it knows the staged bytes, has seen the versions below, and the bytes are a next commit of these with this time
pub record MayRatify (tells : Bool) (k : Knowledge) (version id : ℕ) (time : ℤ) : Type 0 where
  pub bytes : List ℕ
  pub kept : Contains k.kept (triple version id bytes)
  pub below : version ≤ length k.seen
  pub next : IsTrue tells → IsNextCommit (take version k.seen) bytes
  pub timed : IsTrue tells → time ≡ commit_time bytes

-- the bytes are those of the ratified version, and it knows that all below are published
pub record MayPublish (tells : Bool) (k : Knowledge) (version : ℕ) (text : List ℕ) : Type 0 where
  pub known : version < length k.seen
  pub below : version ≤ k.published
  pub text_is : IsTrue tells → text ≡ (commit_at k.seen version).bytes

-- it has seen so many versions, and knows that they are published
pub record MayReport (k : Knowledge) (count : ℕ) : Type 0 where
  pub known : count ≤ length k.seen
  pub published : count ≤ k.published

-- it knows that the version is reported
abbrev pub MayClear : Knowledge → ℕ → Type 0
MayClear k version = version < k.reported
