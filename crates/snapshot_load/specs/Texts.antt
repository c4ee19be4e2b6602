-- What was read of a log: the texts of commits, also where the store does not tell what it holds.
use Rattle.std.specs.Prelude.{◌≡◌, ◌<◌, ◌+◌, ℕ, ℤ, pos, List, Bool, IsTrue, All, length, take, drop, map, unwrap_or}
use Rattle.action_types.specs.declared.actions.Action.{Action}
use Rattle.action_json.specs.Text.{IsCommitText, actions_of}
use Rattle.reconcile.specs.declared.State.{State}
use Rattle.reconcile.specs.Standing.{StandsFor, time_in}
use Rattle.table_model.specs.Log.{Commit, commit_at, commit_time}
use Rattle.table_model.specs.declared.snapshot.Snapshot.{Snapshot}

abbrev pub IsText : List ℕ → Type 0
IsText text = IsCommitText text (actions_of text)

-- the actions are those of a commit text, which is the version's own where the store tells what it holds
pub record IsReadAs (tells : Bool) (seen : List Commit) (version : ℕ) (actions : List Action) : Type 0 where
  pub text : List ℕ
  pub commit : IsText text
  pub known : IsTrue tells → text ≡ (commit_at seen version).bytes
  pub actions_are : actions ≡ actions_of text

-- the texts of the commits of so many versions from `from` up, none left out
pub record AreTexts (tells : Bool) (seen : List Commit) (from count : ℕ) (texts : List (List ℕ)) : Type 0 where
  pub length_is : length texts ≡ count
  pub commits : All IsText texts
  pub known : IsTrue tells → texts ≡ map (λ c. c.bytes) (take count (drop from seen))

-- the state stands for the commits of the first versions, so many, as they were read
pub record IsReplayOf (tells : Bool) (seen : List Commit) (count : ℕ) (s : State) : Type 0 where
  pub texts : List (List ℕ)
  pub are : AreTexts tells seen 0 count texts
  pub stands : StandsFor s (map actions_of texts)

-- the snapshot is what was read of the versions up to its own
pub record IsReadSnapshot (tells : Bool) (seen : List Commit) (s : Snapshot) : Type 0 where
  pub replay : IsReplayOf tells seen (s.version + 1) s.state
  pub time : s.time ≡ unwrap_or (time_in s.state) (pos 0)

-- a snapshot that is kept of a log: its version is one of the log, and its state stands for the versions up to it
pub record IsKept (tells : Bool) (seen : List Commit) (s : Snapshot) : Type 0 where
  pub version : s.version < length seen
  pub replay : IsReplayOf tells seen (s.version + 1) s.state

-- the times of the commits of a log, in milliseconds since 1970 UTC
abbrev pub times_of : List Commit → List ℤ
times_of log = map (λ c. commit_time c.bytes) log

-- the time is that of a commit text, which is the version's own where the store tells what it holds
pub record IsTimeRead (tells : Bool) (seen : List Commit) (version : ℕ) (time : ℤ) : Type 0 where
  pub text : List ℕ
  pub commit : IsText text
  pub known : IsTrue tells → text ≡ (commit_at seen version).bytes
  pub time_is : time ≡ commit_time text

-- the times of the commits of so many versions from `from` up, as they were read
pub record AreTimesRead (tells : Bool) (seen : List Commit) (from count : ℕ) (times : List ℤ) : Type 0 where
  pub texts : List (List ℕ)
  pub are : AreTexts tells seen from count texts
  pub times_are : times ≡ map commit_time texts

-- the actions of the commits of so many versions from `from` up, as they were read
pub record AreActionsRead (tells : Bool) (seen : List Commit) (from count : ℕ) (actions : List (List Action)) : Type 0 where
  pub texts : List (List ℕ)
  pub are : AreTexts tells seen from count texts
  pub actions_are : actions ≡ map actions_of texts
