-- Why a publishing or a clearing was refused.
use Rattle.std.specs.Prelude.{◌≡◌, ◌<◌, ◌+◌, ◌⊎◌, ℕ, [], Bool, IsTrue, Contains, length, Result, Ok, Err}
use Rattle.log_names.specs.declared.LogName.TheVariants as name
use Rattle.table_model.specs.declared.answers.Spot.{Spot}
use Rattle.table_model.specs.declared.answers.Spot.TheVariants as spot
use Rattle.table_model.specs.Knowledge.{Knowledge, StartsWith}
use Rattle.publisher.specs.Publishing.{OnlyAsks}
use Rattle.publisher.specs.declared.answers.PublishError.{PublishError}
use Rattle.publisher.specs.declared.answers.PublishError.TheVariants as publish
use Rattle.publisher.specs.declared.answers.DrainError.{DrainError}
use Rattle.publisher.specs.declared.answers.DrainError.TheVariants as drain

-- the store failed at this spot: the count of faults rose, and the spot is among those that were gained
pub record FailedAt (at : Spot) (k m : Knowledge) : Type 0 where
  pub rose : k.faults < m.faults
  pub gained : StartsWith m.failed k.failed
  pub noted : Contains gained.rest at

-- a store that does not tell what it holds lacks the published file of a ratified version, whose staged file is gone
pub record IsUntold (tells : Bool) (at : Spot) (m : Knowledge) : Type 0 where
  pub untold : ¬ (IsTrue tells)
  pub version : ℕ
  pub ratified : version < length m.seen
  pub file : at ≡ spot.File (name.Published version)

abbrev pub FaultCause : Bool → Spot → Knowledge → Knowledge → Type 0
FaultCause tells at k m = FailedAt at k m ⊎ IsUntold tells at m

-- of a table that is known to have a commit
abbrev pub TurnCause : Bool → PublishError → Knowledge → Knowledge → Type 0
TurnCause tells publish.NoTable k m = ⊥
TurnCause tells (publish.Fault at) k m = FaultCause tells at k m
TurnCause tells publish.Memory k m = Unit {0}

-- the catalogue turn found no commit, and nothing else was done
pub record IsNoTable (k m : Knowledge) : Type 0 where
  pub empty : m.seen ≡ []
  pub only : OnlyAsks k m

-- `NoTable` where the catalogue turn found no commit; a fault where it found one; want of memory before that turn, or
-- where it found one
abbrev pub PublishCause : Bool → PublishError → Knowledge → Knowledge → Type 0
PublishCause tells publish.NoTable k m = IsNoTable k m
PublishCause tells (publish.Fault at) k m = FaultCause tells at k m × (0 < length m.seen)
PublishCause tells publish.Memory k m = k.asks < m.asks → 0 < length m.seen

-- the same; a file that is absent need not be cleared, so that a fault is always one of the store
abbrev pub ClearCause : PublishError → Knowledge → Knowledge → Type 0
ClearCause publish.NoTable k m = IsNoTable k m
ClearCause (publish.Fault at) k m = FailedAt at k m × (0 < length m.seen)
ClearCause publish.Memory k m = k.asks < m.asks → 0 < length m.seen

-- a fault where a catalogue turn found a commit; want of memory before the first one, or where it found a commit
abbrev pub DrainCause : Bool → DrainError → Knowledge → Knowledge → Type 0
DrainCause tells (drain.Fault at) k m = FaultCause tells at k m × (0 < length m.seen)
DrainCause tells drain.Memory k m = k.asks < m.asks → 0 < length m.seen

-- a fact of every answer but want of memory
abbrev pub UnlessMemory : {A : Type 0} → Result A PublishError → Type 0 → Type 0
UnlessMemory (Ok answer) P = P
UnlessMemory (Err publish.NoTable) P = P
UnlessMemory (Err (publish.Fault at)) P = P
UnlessMemory (Err publish.Memory) P = Unit {0}

-- a fault is answered: the caller's count of faults rose by one; it stayed only where the store does not tell what it holds
abbrev pub CountsFault : Bool → Knowledge → Knowledge → Type 0
CountsFault tells k m = (m.faults ≡ k.faults + 1) ⊎ ((¬ (IsTrue tells)) × (m.faults ≡ k.faults))

-- after every other answer it is as before
abbrev pub CountsError : Bool → Knowledge → PublishError → Knowledge → Type 0
CountsError tells k publish.NoTable m = m.faults ≡ k.faults
CountsError tells k (publish.Fault at) m = CountsFault tells k m
CountsError tells k publish.Memory m = m.faults ≡ k.faults

abbrev pub CountsFaults : {A : Type 0} → Bool → Knowledge → Result A PublishError → Knowledge → Type 0
CountsFaults tells k (Ok answer) m = m.faults ≡ k.faults
CountsFaults tells k (Err e) m = CountsError tells k e m

-- of a clearing: after a fault one more, over every store
abbrev pub CountsClear : {A : Type 0} → Knowledge → Result A PublishError → Knowledge → Type 0
CountsClear k (Ok answer) m = m.faults ≡ k.faults
CountsClear k (Err publish.NoTable) m = m.faults ≡ k.faults
CountsClear k (Err (publish.Fault at)) m = m.faults ≡ k.faults + 1
CountsClear k (Err publish.Memory) m = m.faults ≡ k.faults

abbrev pub CountsDrain : {A : Type 0} → Bool → Knowledge → Result A DrainError → Knowledge → Type 0
CountsDrain tells k (Ok answer) m = m.faults ≡ k.faults
CountsDrain tells k (Err (drain.Fault at)) m = CountsFault tells k m
CountsDrain tells k (Err drain.Memory) m = m.faults ≡ k.faults
