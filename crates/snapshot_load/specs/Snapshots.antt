-- What a snapshot and a list of winners are.
use Rattle.std.specs.Prelude.{◌≡◌, ◌≤◌, ◌+◌, ◌-◌, ℕ, List, Bool, IsTrue, Option, Some, None, length, take, drop, map, max, min}
use Rattle.reconcile.specs.Standing.{StandsFor}
use Rattle.table_model.specs.Log.{Commit, commit_at, commit_time, history}
use Rattle.table_model.specs.declared.snapshot.Snapshot.{Snapshot}
use Rattle.snapshot_load.specs.Texts.{times_of}
use Rattle.snapshot_load.specs.declared.answers.Times.{Times}
use Rattle.snapshot_load.specs.declared.answers.Winners.{Winners}

-- A snapshot of a log: the state after the versions up to its own, with the time of the commit of its version; its
-- latest is the last version of the log.
pub record IsSnapshot (tells : Bool) (seen : List Commit) (s : Snapshot) : Type 0 where
  pub latest : s.latest + 1 ≡ length seen
  pub version : s.version ≤ s.latest
  pub state : IsTrue tells → StandsFor s.state (history (take (s.version + 1) seen))
  pub time : IsTrue tells → s.time ≡ commit_time (commit_at seen s.version).bytes

-- the actions of the commits above a version, in order
pub record AreWinners (tells : Bool) (seen : List Commit) (after : ℕ) (w : Winners) : Type 0 where
  pub latest : w.latest + 1 ≡ length seen
  pub count : length w.commits.items + after ≡ w.latest
  pub actions : IsTrue tells → map (λ v. v.items) w.commits.items ≡ history (drop (after + 1) seen)

-- the version up to which a snapshot of version `kept` is brought: the last one, or one that is asked and was ratified; never below its own
abbrev pub version_upto : ℕ → Option ℕ → ℕ → ℕ
version_upto kept None latest = latest
version_upto kept (Some last) latest = max kept (min last latest)

-- the times of the commits from a version on, at most 100 of them
pub record AreTimes (tells : Bool) (seen : List Commit) (from : ℕ) (t : Times) : Type 0 where
  pub latest : t.latest + 1 ≡ length seen
  pub from_is : t.from ≡ from
  pub count : length t.times.items ≡ min 100 (length seen - from)
  pub times : IsTrue tells → t.times.items ≡ times_of (take 100 (drop from seen))
