-- What a write makes of the commits that were ratified since it took the table in.
use Rattle.std.specs.Prelude.{◌≡◌, ◌≤ℤ◌, ◌<ℤ◌, ◌+◌, ℕ, ℤ, length, Bool, Option, Some, None, IfSome, Result, Ok, Err, ⊤}
use Rattle.conflict_rules.specs.declared.intent.Intent.{Intent}
use Rattle.table_model.specs.Knowledge.{Knowledge}
use Rattle.snapshot_load.specs.Causes.{FaultCause}
use Rattle.snapshot_load.specs.Reading.{KeepsBelow}
use Rattle.writer_txn.specs.declared.attempts.Outcome.{Outcome}
use Rattle.writer_txn.specs.declared.attempts.Outcome.TheVariants as outcome
use Rattle.writer_txn.specs.declared.answers.Written.TheVariants as written
use Rattle.writer_txn.specs.declared.errors.WriteError.{WriteError}
use Rattle.writer_txn.specs.declared.errors.WriteError.TheVariants as failed

-- the recorded number is at or above the request's
pub record IsAtOrAbove (intent : Intent) (number : Option ℤ) (recorded : ℤ) : Type 0 where
  pub recorded_is : number ≡ Some recorded
  pub reached : intent.number ≤ℤ recorded

-- the recorded number, where it is at or above the request's, else none
abbrev pub IsReached : Intent → Option ℤ → Option ℤ → Type 0
IsReached intent number None = IfSome number (λ recorded. recorded <ℤ intent.number)
IsReached intent number (Some recorded) = IsAtOrAbove intent number recorded

-- the base stays, and the latest version is this one
pub record Names (base latest b l : ℕ) : Type 0 where
  pub base_is : b ≡ base
  pub latest_is : l ≡ latest

-- the answer is that of a later number, or of a conflict, or the table goes on with all the commits
abbrev pub JudgedFrom : ℕ → ℕ → Result Outcome WriteError → Type 0
JudgedFrom base latest (Ok (outcome.Answered (written.Committed version b time))) = ⊥
JudgedFrom base latest (Ok (outcome.Answered (written.Already recorded l))) = l ≡ latest
JudgedFrom base latest (Ok (outcome.Lost front)) = Names base latest front.base front.latest
JudgedFrom base latest (Err failed.NoTable) = ⊥
JudgedFrom base latest (Err (failed.Exists l)) = ⊥
JudgedFrom base latest (Err (failed.Broken b why)) = ⊥
JudgedFrom base latest (Err (failed.Conflict b winner rule key vector l)) = Names base latest b l
JudgedFrom base latest (Err (failed.Contended attempts l)) = ⊥
JudgedFrom base latest (Err (failed.Full l)) = ⊥
JudgedFrom base latest (Err (failed.TimeEnd b end)) = ⊥
JudgedFrom base latest (Err (failed.TooLarge b bytes)) = ⊥
JudgedFrom base latest (Err (failed.Taken b version id)) = ⊥
JudgedFrom base latest (Err (failed.Fault at)) = ⊥
JudgedFrom base latest (Err failed.Memory) = ⊤

-- nothing that the caller did itself changed, and the staged files that became known are of ratified versions
pub record LeavesOwn (k m : Knowledge) : Type 0 where
  pub mine : m.mine ≡ k.mine
  pub tries : m.tries ≡ k.tries
  pub put : m.put ≡ k.put
  pub kept : KeepsBelow (length m.seen) k m

-- the version named is the last one that is seen
pub record NamesSeen (base b l : ℕ) (m : Knowledge) : Type 0 where
  pub base_is : b ≡ base
  pub newest : l + 1 ≡ length m.seen

-- the same after the commits were read, which the store may fail
abbrev pub CaughtNow : Bool → ℕ → Result Outcome WriteError → Knowledge → Knowledge → Type 0
CaughtNow tells base (Ok (outcome.Answered (written.Committed version b time))) k m = ⊥
CaughtNow tells base (Ok (outcome.Answered (written.Already recorded l))) k m = l + 1 ≡ length m.seen
CaughtNow tells base (Ok (outcome.Lost front)) k m = NamesSeen base front.base front.latest m
CaughtNow tells base (Err failed.NoTable) k m = ⊥
CaughtNow tells base (Err (failed.Exists l)) k m = ⊥
CaughtNow tells base (Err (failed.Broken b why)) k m = ⊥
CaughtNow tells base (Err (failed.Conflict b winner rule key vector l)) k m = NamesSeen base b l m
CaughtNow tells base (Err (failed.Contended attempts l)) k m = ⊥
CaughtNow tells base (Err (failed.Full l)) k m = ⊥
CaughtNow tells base (Err (failed.TimeEnd b end)) k m = ⊥
CaughtNow tells base (Err (failed.TooLarge b bytes)) k m = ⊥
CaughtNow tells base (Err (failed.Taken b version id)) k m = ⊥
CaughtNow tells base (Err (failed.Fault at)) k m = FaultCause tells at k m
CaughtNow tells base (Err failed.Memory) k m = ⊤

-- an attempt that goes on has the same base, and has taken in all that is seen
abbrev pub GoesFrom : ℕ → Result Outcome WriteError → Knowledge → Type 0
GoesFrom base (Ok (outcome.Answered answer)) m = ⊤
GoesFrom base (Ok (outcome.Lost front)) m = NamesSeen base front.base front.latest m
GoesFrom base (Err e) m = ⊤
