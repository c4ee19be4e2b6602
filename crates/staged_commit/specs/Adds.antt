-- Files that are added to a table, each named by its path and, where it has one, by the unique id of its deletion vector.
--     have_own_files adds      no file stands twice
--     with_add add adds        the adds with one more, before the first of a later file
--     adds_in_order adds       the adds in the order of their files, put in one after the other
use Rattle.std.specs.Prelude.{List, [], ◌∷◌, ◌++◌, ◌&&◌, Bool, true, not, fold, map, if◌then◌else◌}
use Rattle.std.specs.List.{list_any}
use Rattle.std.specs.List.Sorted.{IsPermutation, IsStrictlySortedBy}
use Rattle.std.specs.Ordering.{is_lt}
use Rattle.action_types.specs.declared.actions.Add.{Add}
use Rattle.action_types.specs.Files.{File, file_cmp, file_of_add, same_file}

-- the add is of this file
abbrev pub has_file : File → Add → Bool
has_file file b = same_file (file_of_add b) file

-- no file is that of an add before it
abbrev pub are_new : List Add → List Add → Bool
are_new before [] = true
are_new before (a ∷ more) = not (list_any (has_file (file_of_add a)) before) && are_new (before ++ a ∷ []) more

unfoldable pub have_own_files : List Add → Bool
have_own_files adds = are_new [] adds

-- the add has a later file
abbrev pub is_after : File → Add → Bool
is_after file b = is_lt (file_cmp file (file_of_add b))

abbrev pub with_add : Add → List Add → List Add
with_add a [] = a ∷ []
with_add a (b ∷ bs) = if is_after (file_of_add a) b then a ∷ b ∷ bs else b ∷ with_add a bs

abbrev pub adds_in_order : List Add → List Add
adds_in_order adds = fold (λ done a. with_add a done) [] adds

-- the same adds, and each file is below the next
pub record IsInOrder (adds list : List Add) : Type 0 where
  pub same : IsPermutation adds list
  pub rising : IsStrictlySortedBy file_cmp (map file_of_add list)
