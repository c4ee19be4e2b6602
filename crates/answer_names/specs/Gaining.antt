-- What every answer owes to its moment: k was known before the request, m after it.
use Rattle.std.specs.Prelude.{◌≡◌, ◌≤◌, ◌<◌, ◌+◌, ◌++◌, ◌⊎◌, ℕ, Bool, List, length, filter, max, All, Contains, IfSome, IsSomeAnd, IsTrue, Option, Some, None}
use Rattle.log_names.specs.declared.LogName.{LogName}
use Rattle.log_names.specs.declared.LogName.TheVariants as name
use Rattle.table_model.specs.declared.answers.Spot.{Spot}
use Rattle.table_model.specs.Knowledge.{Knowledge}
use Rattle.answer_names.specs.Names.{Names}

-- the table is known to have had so many versions
abbrev pub known_length : Knowledge → ℕ
known_length k = max (length k.seen) k.told

-- how many elements pass a test
abbrev pub times : {A : Type 0} → (A → Bool) → List A → ℕ
times test xs = length (filter test xs)

abbrev pub one_for : Option ℕ → ℕ
one_for None = 0
one_for (Some n) = 1

-- it speaks of no fewer versions than were known before, of more where it names a new one, and of none that was not seen then
pub record IsFront (a : Names) (n : ℕ) (k m : Knowledge) : Type 0 where
  pub from : known_length k + length a.versions ≤ n
  pub to : n ≤ length m.seen

-- one version at most, the last of the front
pub record HasOneVersion (a : Names) : Type 0 where
  pub few : length a.versions ≤ one_for a.front
  pub last : All (λ version. a.front ≡ Some (version + 1)) a.versions

-- the name of a staged commit
pub record IsStagedName (n : LogName) : Type 0 where
  pub version : ℕ
  pub id : ℕ
  pub is : n ≡ name.Staged version id

-- others ratified first, or more is seen than was known before and is the caller's own
abbrev pub HasOthers : Names → Knowledge → Knowledge → Type 0
HasOthers a k m = (0 < a.tries) ⊎ (length k.seen + length a.versions < length m.seen)

pub record Gains (tells : Bool) (a : Names) (k m : Knowledge) : Type 0 where
  pub front : IfSome a.front (λ n. IsFront a n k m)
  pub newest : IsTrue a.newest → IfSome a.front (λ n. n ≡ length m.seen)
  pub base : IfSome a.base (λ b. known_length k ≤ b + 1)
  -- a front was heard of the catalogue in this request
  pub asked : k.asks + one_for a.front ≤ m.asks
  -- no version is gained but those that it names
  pub mine : m.mine ≡ k.mine ++ a.versions
  pub one : HasOneVersion a
  -- of others it tells only where there are some, if a write may be tried at all
  pub others : IsTrue a.contested → IsSomeAnd m.terms (λ t. 1 ≤ t.limits.attempts) → HasOthers a k m
  -- what it names was gained in this request, whatever test is put to it; a fault so where contents are told
  pub faults : IsTrue tells → k.faults + length a.spots ≤ m.faults
  -- no fault in this request but the one that it tells
  pub no_other : m.faults ≤ k.faults + length a.spots
  pub failed : IsTrue tells → (test : Spot → Bool) → times test k.failed + times test a.spots ≤ times test m.failed
  pub takens : (test : LogName → Bool) → times test k.takens + times test a.takens ≤ times test m.takens
  pub noted : All (Contains m.takens) a.takens
  pub staged : All IsStagedName a.takens
  pub tries : length k.tries + a.tries ≤ length m.tries
