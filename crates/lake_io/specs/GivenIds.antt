-- Ids that were given.
use Rattle.std.specs.Prelude.{◌≡◌, ◌==◌, ◌+◌, ◌-◌, ◌^◌, ℕ, zero, suc, Bool, false, drop, slice_index_or, if◌then◌else◌, List, [], ◌∷◌, ◌++◌, Contains, IsTrue, nat_eq, Option, Some, None}
use Rattle.std.specs.List.{IsDistinct}

-- one more id was given, which stood nowhere among those before; and all of them were told to differ already then
pub record GivesNew (differ : Bool) (given : List ℕ) (id : ℕ) (given' : List ℕ) : Type 0 where
  pub before : IsTrue differ
  pub added : given' ≡ given ++ id ∷ []
  pub fresh : ¬ (Contains given id)
  pub distinct : IsDistinct nat_eq given'

-- so many numbers in a row, the first of them being `first`
unfoldable pub counted_up : ℕ → ℕ → List ℕ
counted_up first zero = []
counted_up first (suc k) = counted_up first k ++ (first + k) ∷ []

-- the numbers from the first to below the next one; none is next after the greatest of 128 bits
abbrev pub counted_to : ℕ → Option ℕ → List ℕ
counted_to first None = counted_up first (2 ^ 128 - first)
counted_to first (Some next) = counted_up first (next - first)

abbrev pub next_number : ℕ → Option ℕ
next_number n = if n == 2 ^ 128 - 1 then None else Some (n + 1)

-- ids in memory: the last one given, whether all are told to differ, the number that counting began with, the one that counting gives
-- next, and the ids of a list that are still to come
pub record IdData : Type 0 where
  pub last : ℕ
  pub differ : Bool
  pub first : ℕ
  pub next : Option ℕ
  pub rest : List ℕ

abbrev pub next_by : Option ℕ → IdData → IdData
next_by (Some n) d = record { last = n; differ = d.differ; first = d.first; next = next_number n; rest = d.rest }
next_by None d = record { last = slice_index_or d.rest 0 d.last; differ = false; first = d.first; next = None; rest = drop 1 d.rest }

-- the same after one more id: the next number, or else the list's next id, or else the last one again
abbrev pub next_id : IdData → IdData
next_id d = next_by d.next d
