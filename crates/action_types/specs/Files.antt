-- What names a data file (Delta protocol, "Action Reconciliation" and "Deletion Vectors"): its path, compared byte by byte as it is
-- written, and, where it has a deletion vector, the unique id of the vector.
use Rattle.std.specs.Prelude.{ℕ, ℤ, Bool, List, [], ◌∷◌, ◌++◌, Option, Some, None, option_map}
use Rattle.std.specs.Borrow.{Bor}
use Rattle.std.specs.declared.cmp.Ordering.{Ordering}
use Rattle.std.specs.Ordering.{nat_cmp, on, then_cmp, eq_by_cmp}
use Rattle.std.specs.Cmp.{IsTotalOrder, on_total, then_total}
use Rattle.std.specs.Cmp.Lexicographic.{slice_cmp, nat_list_cmp_total, options_total}
use Rattle.std.specs.Option.{option_cmp}
use Rattle.std.specs.Fmt.{signed_decimal}
use Rattle.action_types.specs.declared.actions.Add.{Add}
use Rattle.action_types.specs.declared.actions.Remove.{Remove}
use Rattle.action_types.specs.declared.actions.Vector.{Vector}
use Rattle.action_types.specs.declared.files.Key.{Key}

-- texts in the order of their bytes
abbrev pub name_cmp : List ℕ → List ℕ → Ordering
name_cmp = slice_cmp nat_cmp

-- an offset as it stands in a unique id: `@` and the number in decimal, or nothing
abbrev pub offset_text : Option ℤ → List ℕ
offset_text None = []
offset_text (Some n) = 64 ∷ signed_decimal n

-- the unique id of a deletion vector: the type of its storage, where it is, and its offset, if there is one
unfoldable pub unique_id : Vector → List ℕ
unique_id vector = vector.storage ++ vector.locator ++ offset_text vector.offset

-- a data file: its path, and the unique id of its deletion vector, if it has one
pub record File : Type 0 where
  pub path : List ℕ
  pub id : Option (List ℕ)

-- the unique id of a vector, if there is one
abbrev pub id_of : Option (Bor Vector) → Option (List ℕ)
id_of vector = option_map (λ v. unique_id v.now) vector

-- the file of a path with a vector or with none
abbrev pub file : List ℕ → Option Vector → File
file path vector = record { path = path; id = option_map unique_id vector }

abbrev pub file_of_add : Add → File
file_of_add add = file add.path add.vector

abbrev pub file_of_remove : Remove → File
file_of_remove remove = file remove.path remove.vector

abbrev pub file_of_key : Key → File
file_of_key key = record { path = key.path.now; id = id_of key.vector }

-- a file without a vector first, then by the bytes of the unique id
abbrev pub id_cmp : Option (List ℕ) → Option (List ℕ) → Ordering
id_cmp = option_cmp name_cmp

-- files by path, and under one path the one without a vector first, then by the bytes of the unique id
unfoldable pub file_cmp : File → File → Ordering
file_cmp = then_cmp (on (λ f. f.path) name_cmp) (on (λ f. f.id) id_cmp)

-- whether two are one file
abbrev pub same_file : File → File → Bool
same_file = eq_by_cmp file_cmp

-- a total order
pub file_cmp_total : IsTotalOrder file_cmp
unfolding file_cmp
file_cmp_total = then_total (on_total (λ f. f.path) nat_list_cmp_total) (on_total (λ f. f.id) (options_total nat_list_cmp_total))
