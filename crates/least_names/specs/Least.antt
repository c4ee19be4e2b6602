-- The least of names, texts in the order of their bytes, and the least of files, in the order of files: by path, under one path the file
-- without a deletion vector first, then by the bytes of the vector's unique id.
use Rattle.std.specs.Prelude.{◌≡◌, ℕ, List, ◌∷◌, ◌++◌, false, Option, Some, None, if◌then◌else◌, fold, All}
use Rattle.std.specs.declared.cmp.Ordering.{Ordering}
use Rattle.std.specs.Ordering.{is_lt, is_gt}
use Rattle.action_types.specs.Files.{File, name_cmp, file_cmp}

-- in an order, the lesser of the least so far and one more
abbrev pub lesser_by : {K : Type 0} → (K → K → Ordering) → Option K → K → Option K
lesser_by order None one = Some one
lesser_by order (Some best) one = if is_lt (order one best) then Some one else Some best

-- in an order, the least of all, if there is any
abbrev pub least_by : {K : Type 0} → (K → K → Ordering) → List K → Option K
least_by order all = fold (lesser_by order) None all

-- ---- of names

abbrev pub lesser : Option (List ℕ) → List ℕ → Option (List ℕ)
lesser = lesser_by name_cmp

abbrev pub least : List (List ℕ) → Option (List ℕ)
least = least_by name_cmp

-- ---- of files

abbrev pub lesser_file : Option File → File → Option File
lesser_file = lesser_by file_cmp

abbrev pub least_file : List File → Option File
least_file = least_by file_cmp

-- one of all, and in the order it is above none of them
pub record IsLeast {K : Type 0} (order : K → K → Ordering) (all : List K) (one : K) : Type 0 where
  pub among : (front : List K) × (back : List K) × (all ≡ front ++ one ∷ back)
  pub above_none : All (λ other. is_gt (order one other) ≡ false) all
