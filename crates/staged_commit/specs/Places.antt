-- Places in lists in byte order of names.
use Rattle.std.specs.Prelude.{ℕ, List, Option, Some, None, Bool, false, bytes_eq, slice_get}
use Rattle.std.specs.Ordering.{is_le}
use Rattle.action_types.specs.Files.{name_cmp}
use Rattle.action_fields.specs.Types.{Pair}

-- the other name is this one, or after it
abbrev pub is_not_before : List ℕ → List ℕ → Bool
is_not_before name other = is_le (name_cmp name other)

abbrev pub is_at : List ℕ → Option (List ℕ) → Bool
is_at name None = false
is_at name (Some other) = bytes_eq other name

-- the name stands at this place
abbrev pub stands_at : List ℕ → List (List ℕ) → ℕ → Bool
stands_at name names place = is_at name (slice_get names place)

abbrev pub pair_is_at : List ℕ → Option Pair → Bool
pair_is_at name None = false
pair_is_at name (Some other) = bytes_eq other.0 name

-- a pair of this name stands at this place
abbrev pub pair_stands_at : List ℕ → List Pair → ℕ → Bool
pair_stands_at name pairs place = pair_is_at name (slice_get pairs place)
