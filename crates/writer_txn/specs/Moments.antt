-- What an answer says of its moment: of what the caller knew before the call, k, and knows after it, m.
use Rattle.std.specs.Prelude.{◌≡◌, ◌<◌, ◌≤◌, ◌+◌, ◌++◌, ◌∷◌, [], ℕ, List, length, Bool, Contains, Option, Some, None, IfSome, Result, Ok, Err}
use Rattle.std.specs.List.{AllPairs}
use Rattle.log_names.specs.declared.LogName.TheVariants as name
use Rattle.table_model.specs.declared.answers.Spot.{Spot}
use Rattle.table_model.specs.declared.known.Try.{Try}
use Rattle.table_model.specs.Knowledge.{Knowledge, StartsWith}
use Rattle.table_model.specs.Conditions.{triple}
use Rattle.snapshot_load.specs.Causes.{FaultCause}
use Rattle.writer_txn.specs.declared.answers.Written.{Written}
use Rattle.writer_txn.specs.declared.answers.Written.TheVariants as written
use Rattle.writer_txn.specs.declared.errors.WriteError.{WriteError}
use Rattle.writer_txn.specs.declared.errors.WriteError.TheVariants as failed

-- The catalogue was asked in this call, and it had so many commits then, or more: all that was seen and told before is
-- in them, and they are seen now.
pub record IsFront (front : ℕ) (k m : Knowledge) : Type 0 where
  pub seen : length k.seen ≤ front
  pub told : k.told ≤ front
  pub within : front ≤ length m.seen
  pub asked : k.asks < m.asks

-- the version of the first try, where some were refused, else this one
abbrev pub first_tried : List Try → ℕ → ℕ
first_tried [] version = version
first_tried (t ∷ tries) version = t.version

-- The write began at this front: the version of the first try that was refused in this call, or the next version where none was.
pub record IsFirstFront (front next : ℕ) (k m : Knowledge) : Type 0 where
  pub tries : StartsWith m.tries k.tries
  pub first : first_tried tries.rest next ≡ front

-- the version is the last one, and the caller's own
pub record IsCommitted (front version : ℕ) (k m : Knowledge) : Type 0 where
  pub front_is : IsFront front k m
  pub began : IsFirstFront front version k m
  pub last : version + 1 ≡ length m.seen
  pub mine : m.mine ≡ k.mine ++ version ∷ []

-- the version is the last one
pub record NamesLatest (latest : ℕ) (k m : Knowledge) : Type 0 where
  pub front_is : IsFront (latest + 1) k m
  pub last : latest + 1 ≡ length m.seen
  pub mine : m.mine ≡ k.mine

-- the base was the last version when the table was loaded
pub record NamesBase (base : ℕ) (k m : Knowledge) : Type 0 where
  pub front_is : IsFront (base + 1) k m
  pub began : IsFirstFront (base + 1) (length m.seen) k m
  pub mine : m.mine ≡ k.mine

-- there is no commit, and no try was refused in this call
pub record FindsNone (k m : Knowledge) : Type 0 where
  pub front_is : IsFront 0 k m
  pub none : m.seen ≡ []
  pub mine : m.mine ≡ k.mine
  pub tries : m.tries ≡ k.tries

-- the base of a write; a create has none
abbrev pub StopsAt : Option ℕ → Knowledge → Knowledge → Type 0
StopsAt None k m = FindsNone k m
StopsAt (Some base) k m = NamesBase base k m

abbrev pub front_above : Option ℕ → ℕ
front_above None = 0
front_above (Some base) = base + 1

-- a conflict names both
pub record ConflictsNow (base latest : ℕ) (k m : Knowledge) : Type 0 where
  pub from : NamesBase base k m
  pub to : NamesLatest latest k m

-- so many tries were refused in this call, as many as the limit of attempts, each at a later version than the one before it
pub record IsContended (attempts latest : ℕ) (k m : Knowledge) : Type 0 where
  pub to : NamesLatest latest k m
  pub limit : IfSome m.terms (λ t. attempts ≡ t.limits.attempts)
  pub tries : StartsWith m.tries k.tries
  pub count : length tries.rest ≡ attempts
  pub rising : AllPairs (λ earlier later. earlier.version < later.version) tries.rest

-- there are as many versions as the limit says
pub record IsFull (latest : ℕ) (k m : Knowledge) : Type 0 where
  pub to : NamesLatest latest k m
  pub limit : IfSome m.terms (λ t. latest + 1 ≡ t.limits.versions)

-- so many bytes are above the limit
pub record IsTooLarge (base : Option ℕ) (bytes : ℕ) (k m : Knowledge) : Type 0 where
  pub from : StopsAt base k m
  pub limit : IfSome m.terms (λ t. t.limits.bytes < bytes)

-- the staging of this name, of the version after all that is seen, was refused in this call, which had neither put it nor learnt of a file of it
pub record IsTaken (base : Option ℕ) (version id : ℕ) (k m : Knowledge) : Type 0 where
  pub from : StopsAt base k m
  pub next : version ≡ length m.seen
  pub takens : StartsWith m.takens k.takens
  pub noted : Contains takens.rest (name.Staged version id)
  pub put : StartsWith m.put k.put
  pub foreign : ¬ (Contains put.rest (name.Staged version id))
  pub kept : StartsWith m.kept k.kept
  pub unlearnt : (bytes : List ℕ) → ¬ (Contains kept.rest (triple version id bytes))

pub record HasFailed (tells : Bool) (at : Spot) (k m : Knowledge) : Type 0 where
  pub cause : FaultCause tells at k m
  pub mine : m.mine ≡ k.mine

-- what each answer of a create or a write says of its moment
abbrev pub WrittenNow : Bool → Result Written WriteError → Knowledge → Knowledge → Type 0
WrittenNow tells (Ok (written.Committed version base time)) k m = IsCommitted (front_above base) version k m
WrittenNow tells (Ok (written.Already recorded latest)) k m = NamesLatest latest k m
WrittenNow tells (Err failed.NoTable) k m = FindsNone k m
WrittenNow tells (Err (failed.Exists latest)) k m = NamesLatest latest k m
WrittenNow tells (Err (failed.Broken base why)) k m = StopsAt base k m
WrittenNow tells (Err (failed.Conflict base winner rule key vector latest)) k m = ConflictsNow base latest k m
WrittenNow tells (Err (failed.Contended attempts latest)) k m = IsContended attempts latest k m
WrittenNow tells (Err (failed.Full latest)) k m = IsFull latest k m
WrittenNow tells (Err (failed.TimeEnd base end)) k m = NamesBase base k m
WrittenNow tells (Err (failed.TooLarge base bytes)) k m = IsTooLarge base bytes k m
WrittenNow tells (Err (failed.Taken base version id)) k m = IsTaken base version id k m
WrittenNow tells (Err (failed.Fault at)) k m = HasFailed tells at k m
WrittenNow tells (Err failed.Memory) k m = m.mine ≡ k.mine
