-- A write while it goes on, from attempt to attempt.
use Rattle.std.specs.Prelude.{◌≡◌, ◌<◌, ◌≤◌, ◌+◌, ℕ, ℤ, List, length, Bool, IsTrue, Contains, None, Result, Ok, Err}
use Rattle.std.specs.List.{AllPairs, All}
use Rattle.log_names.specs.declared.LogName.TheVariants as name
use Rattle.reconcile.specs.Standing.{StandsFor}
use Rattle.conflict_rules.specs.declared.intent.Intent.{Intent}
use Rattle.snapshot_load.specs.Reading.{KeepsBelow}
use Rattle.table_model.specs.Log.{Commit}
use Rattle.table_model.specs.Knowledge.{Knowledge, StartsWith, IsGrown}
use Rattle.writer_txn.specs.Fronts.{before, IsNewer, first_clash}
use Rattle.writer_txn.specs.Moments.{IsFront, first_tried, WrittenNow}
use Rattle.writer_txn.specs.Writing.{WriteStands}
use Rattle.writer_txn.specs.declared.attempts.Front.{Front}
use Rattle.writer_txn.specs.declared.attempts.Outcome.{Outcome}
use Rattle.writer_txn.specs.declared.attempts.Outcome.TheVariants as outcome
use Rattle.writer_txn.specs.declared.errors.WriteError.{WriteError}

-- the state is that of the table up to the last version that was taken in, and nothing in it stands against the write
pub record IsFrontOf (tells : Bool) (intent : Intent) (f : Front) (log : List Commit) : Type 0 where
  pub within : f.latest < length log
  pub base : f.base ≤ f.latest
  pub state : IsTrue tells → StandsFor f.state (before (f.latest + 1) log)
  pub number_at_base : IsTrue tells → IsNewer intent (before (f.base + 1) log)
  pub number : IsTrue tells → IsNewer intent (before (f.latest + 1) log)
  pub conflicts : IsTrue tells → first_clash intent f.base (f.latest + 1) log ≡ None

-- So many tries of this call were refused, the first at the version after the base, each at a later one than the one before it, and
-- nothing became the caller's own. What it tried and put, and the staged files that it learnt of, are of versions that are seen now.
pub record IsUnderway (base tried : ℕ) (k m : Knowledge) : Type 0 where
  pub grows : IsGrown k m
  pub front_is : IsFront (base + 1) k m
  pub mine : m.mine ≡ k.mine
  pub tries : StartsWith m.tries k.tries
  pub count : length tries.rest ≡ tried
  pub first : first_tried tries.rest (length m.seen) ≡ base + 1
  pub rising : AllPairs (λ earlier later. earlier.version < later.version) tries.rest
  pub tries_below : All (λ t. t.version < length m.seen) tries.rest
  pub put : StartsWith m.put k.put
  pub put_below : (version id : ℕ) → Contains put.rest (name.Staged version id) → version < length m.seen
  pub kept : KeepsBelow (length m.seen) k m

-- all that is seen was taken in
pub record GoesOn (base tried : ℕ) (f : Front) (k m : Knowledge) : Type 0 where
  pub base_is : f.base ≡ base
  pub newest : f.latest + 1 ≡ length m.seen
  pub underway : IsUnderway base tried k m

-- what an attempt says of the log
abbrev pub AttemptStands : Bool → Intent → Result Outcome WriteError → ℤ → ℕ → List Commit → Type 0
AttemptStands tells intent (Ok (outcome.Answered answer)) reading last log = WriteStands tells intent (Ok answer) reading last log
AttemptStands tells intent (Ok (outcome.Lost front)) reading last log = IsFrontOf tells intent front log
AttemptStands tells intent (Err e) reading last log = WriteStands tells intent (Err e) reading last log

-- what it says of its moment, where k was known when the write began
abbrev pub AttemptNow : Bool → ℕ → ℕ → Result Outcome WriteError → Knowledge → Knowledge → Type 0
AttemptNow tells base tried (Ok (outcome.Answered answer)) k m = WrittenNow tells (Ok answer) k m
AttemptNow tells base tried (Ok (outcome.Lost front)) k m = GoesOn base (tried + 1) front k m
AttemptNow tells base tried (Err e) k m = WrittenNow tells (Err e) k m
