-- What an answer to a request names.
use Rattle.std.specs.Prelude.{ℕ, ◌+◌, Bool, true, false, List, [], map, Option, Some, None}
use Rattle.log_names.specs.declared.LogName.{LogName}
use Rattle.table_model.specs.declared.answers.Spot.{Spot}
use Rattle.table_model.specs.Knowledge.{Knowledge}

pub record Names : Type 0 where
  -- the number of versions that it speaks of, and whether these are all versions at its moment
  pub front : Option ℕ
  pub newest : Bool
  -- the version that a write was made on
  pub base : Option ℕ
  -- the versions that were ratified for this caller
  pub versions : List ℕ
  -- whether it tells of versions that others ratified between a load and a ratification
  pub contested : Bool
  -- where the store failed
  pub spots : List Spot
  -- the names under which a file stood
  pub takens : List LogName
  -- how often others ratified first
  pub tries : ℕ

-- nothing is named
abbrev pub nothing : Names
nothing = record {
  front = None;
  newest = false;
  base = None;
  versions = [];
  contested = false;
  spots = [];
  takens = [];
  tries = 0;
}

-- all versions, of which there are so many
abbrev pub all_versions : ℕ → Names
all_versions count = record nothing { front = Some count; newest = true }

-- the versions up to a base; a create has none
abbrev pub after_base : Option ℕ → ℕ
after_base None = 0
after_base (Some base) = base + 1

abbrev pub on_base : Option ℕ → Names
on_base base = record nothing { front = Some (after_base base); base = base }

-- an answer by what it names, and what its caller knew after it
pub record Answer : Type 0 where
  pub names : Names
  pub after : Knowledge

abbrev pub answer : Names → Knowledge → Answer
answer names after = record { names = names; after = after }

abbrev pub names_of : List Answer → List Names
names_of answers = map (λ a. a.names) answers
