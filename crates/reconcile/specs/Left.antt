-- The files that a walk has left: those of the path that is being given, and then the others in their order.
use Rattle.std.specs.Prelude.{ℕ, Bool, true, false, List, [], ◌∷◌, ◌++◌, map, Option, Some, None, string_bytes}
use Rattle.std.specs.Borrow.{Bor}
use Rattle.std.specs.Ordering.{is_gt}
use Rattle.std.specs.FinMap as fin
use Rattle.std.specs.declared.string.String.{String}
use Rattle.std.specs.declared.alloc.Global.{Global}
use Rattle.action_types.specs.Files.{name_cmp}
use Rattle.reconcile.specs.ByFile.{in_file_order}
use Rattle.reconcile.specs.Named.{named}

-- the entries of a map by name, the next one apart
abbrev pub ahead : {V : Type 0} → Option (Bor (String Global) × Bor V) → List (String Global × V) → List (List ℕ × V)
ahead None rest = []
ahead (Some first) rest = (string_bytes first.0.now, first.1.now) ∷ named rest

abbrev pub first_name : {V : Type 0} → List (List ℕ × V) → Option (List ℕ)
first_name [] = None
first_name (e ∷ es) = Some e.0

abbrev pub first_value : {V : Type 0} → List (List ℕ × V) → Option V
first_value [] = None
first_value (e ∷ es) = Some e.1

abbrev pub rest_of : {A : Type 0} → List A → List A
rest_of [] = []
rest_of (x ∷ xs) = xs

-- the files of the path that is being given
abbrev pub given_left : {V : Type 0} → Option (List V) → List V
given_left None = []
given_left (Some vs) = vs

abbrev pub files_left : {V : Type 0} → List V → List (List ℕ × V) → List (List ℕ × fin.FinMap name_cmp V) → List V
files_left given plain marked = given ++ map (λ e. e.1) (in_file_order plain marked)

-- whether the next path, if there is one, is after a path: where there is none, none stands before it
abbrev pub name_after : Option (List ℕ) → List ℕ → Bool
name_after None marked = true
name_after (Some path) marked = is_gt (name_cmp path marked)

-- whether a path with vectors stands before the next path without one
abbrev pub is_marked_first : {V W : Type 0} → List (List ℕ × V) → List (List ℕ × W) → Bool
is_marked_first plain [] = false
is_marked_first plain (m ∷ ms) = name_after (first_name plain) m.0

abbrev pub values_in : {V : Type 0} → Option (fin.FinMap name_cmp V) → List V
values_in None = []
values_in (Some files) = fin.values files

-- the files of the next path with vectors
abbrev pub opened : {V : Type 0} → List (List ℕ × fin.FinMap name_cmp V) → List V
opened marked = values_in (first_value marked)
