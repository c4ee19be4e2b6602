-- A log is the list of the commits of a table: the version of a commit is its place, from 0.
--     commit_at log v          the commit of a version
--     commit_time bytes        the in-commit timestamp of a commit
--     history log              the actions of each commit
--     IsNextCommit log bytes   the text is a commit that breaks no rule after this log
--     IsSound log              each commit is the next of those below it
use Rattle.std.specs.Prelude.{◌≡◌, ◌<◌, ℕ, ℤ, pos, List, [], ◌∷◌, ◌++◌, length, take, map, Option, None, unwrap_or, slice_index_or}
use Rattle.action_types.specs.declared.actions.Action.{Action}
use Rattle.action_json.specs.Text.{IsCommitText, actions_of}
use Rattle.reconcile.specs.Replay.{time_of_log}
use Rattle.table_rules.specs.Broken.{first_broken}

-- a commit: the id under which it was staged, and its text
pub record Commit : Type 0 where
  pub id : ℕ
  pub bytes : List ℕ

abbrev pub no_commit : Commit
no_commit = record { id = 0; bytes = [] }

abbrev pub commit_at : List Commit → ℕ → Commit
commit_at log version = slice_index_or log version no_commit

-- in milliseconds since 1970 UTC
unfoldable pub commit_time : List ℕ → ℤ
commit_time bytes = unwrap_or (time_of_log (actions_of bytes ∷ [])) (pos 0)

abbrev pub history : List Commit → List (List Action)
history log = map (λ c. actions_of c.bytes) log

pub record IsNextCommit (log : List Commit) (bytes : List ℕ) : Type 0 where
  pub text : IsCommitText bytes (actions_of bytes)
  pub rules : first_broken (history log) (actions_of bytes) ≡ None

abbrev pub IsSound : List Commit → Type 0
IsSound log = (version : ℕ) → version < length log → IsNextCommit (take version log) (commit_at log version).bytes
