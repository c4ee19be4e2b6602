-- A front of a log is the list of its first commits: the table as it was before a version.
--     before version log       the actions of each commit below a version
--     above base version log   the actions of each commit above the base and below a version
--     IsNewer intent table     the application's number in the table is none, or below the request's
--     first_clash              the first conflict with the commits above the base
use Rattle.std.specs.Prelude.{ℕ, ◌+◌, ◌<ℤ◌, List, take, drop, Option, IfSome}
use Rattle.reconcile.specs.Replay.{Log}
use Rattle.table_rules.specs.Broken.{number_at}
use Rattle.conflict_rules.specs.declared.intent.Intent.{Intent}
use Rattle.conflict_rules.specs.Conflict.{Said, first_conflict}
use Rattle.table_model.specs.Log.{Commit, history}

abbrev pub before : ℕ → List Commit → Log
before version log = history (take version log)

abbrev pub above : ℕ → ℕ → List Commit → Log
above base version log = history (drop (base + 1) (take version log))

abbrev pub IsNewer : Intent → Log → Type 0
IsNewer intent table = IfSome (number_at intent.app table) (λ recorded. recorded <ℤ intent.number)

-- the lowest version that conflicts, its first rule, and the least key
abbrev pub first_clash : Intent → ℕ → ℕ → List Commit → Option (ℕ × Said)
first_clash intent base version log = first_conflict intent (before (base + 1) log) (base + 1) (above base version log)
