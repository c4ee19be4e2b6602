-- What answers say together: k was known before the first, m after the last.
use Rattle.std.specs.Prelude.{◌≡◌, ◌≤◌, ◌+◌, ◌++◌, ℕ, Bool, List, [], ◌∷◌, length, flat_map, All, IfSome, IsTrue, unwrap_or, ⊤}
use Rattle.log_names.specs.declared.LogName.{LogName}
use Rattle.table_model.specs.declared.answers.Spot.{Spot}
use Rattle.table_model.specs.Knowledge.{Knowledge, IsGrown}
use Rattle.answer_names.specs.Names.{Names}
use Rattle.answer_names.specs.Gaining.{known_length, times, one_for, HasOneVersion}

-- the versions that were ratified for the caller, in order
abbrev pub versions_in : List Names → List ℕ
versions_in answers = flat_map (λ a. a.versions) answers

-- the names that are told as taken, in order
abbrev pub takens_in : List Names → List LogName
takens_in answers = flat_map (λ a. a.takens) answers

-- a number of each answer, added up
abbrev pub total : (Names → ℕ) → List Names → ℕ
total worth [] = 0
total worth (a ∷ answers) = worth a + total worth answers

-- how many faults of the store are told
abbrev pub faults_in : List Names → ℕ
faults_in answers = total (λ a. length a.spots) answers

-- a front is not below `low`, and above it where the answer names a new version; so is the front of a base
pub record IsFrom (low : ℕ) (a : Names) : Type 0 where
  pub front : IfSome a.front (λ n. low + length a.versions ≤ n)
  pub base : IfSome a.base (λ b. low ≤ b + 1)

-- each front and each base is not below `low`, nor below a front before it; that of a new version is above them all
abbrev pub FrontsRise : ℕ → List Names → Type 0
FrontsRise low [] = ⊤
FrontsRise low (a ∷ answers) = IsFrom low a × FrontsRise (unwrap_or a.front low) answers

-- no front is above this number
abbrev pub FrontsWithin : ℕ → List Names → Type 0
FrontsWithin high answers = All (λ a. IfSome a.front (λ n. n ≤ high)) answers

pub record Together (tells : Bool) (k : Knowledge) (answers : List Names) (m : Knowledge) : Type 0 where
  -- nothing that was known is lost
  pub grows : IsGrown k m
  -- fronts never fall, from what was known before on, and none is above what was seen
  pub rise : FrontsRise (known_length k) answers
  pub within : FrontsWithin (length m.seen) answers
  -- the versions gained are those that the answers name, in order, each in an answer of its own, as the last of its front
  pub mine : m.mine ≡ k.mine ++ versions_in answers
  pub one : All HasOneVersion answers
  -- each front was heard in a catalogue turn of its own
  pub asked : k.asks + total (λ a. one_for a.front) answers ≤ m.asks
  -- where contents are told, each fault that is named has one of its own, at its spot
  pub faults : IsTrue tells → k.faults + faults_in answers ≤ m.faults
  -- and each fault is named
  pub no_other : m.faults ≤ k.faults + faults_in answers
  pub failed : IsTrue tells → (test : Spot → Bool) → times test k.failed + total (λ a. times test a.spots) answers ≤ times test m.failed
  -- each taken name has one of its own that was answered taken
  pub takens : (test : LogName → Bool) → times test k.takens + total (λ a. times test a.takens) answers ≤ times test m.takens
  -- where others were first so often, as many lost tries are its own
  pub tries : length k.tries + total (λ a. a.tries) answers ≤ length m.tries

-- fronts never fall, and none is above this number of commits
pub record AreWithin (answers : List Names) (commits : ℕ) : Type 0 where
  pub rise : FrontsRise 0 answers
  pub within : FrontsWithin commits answers
