-- The key by which an action names a data file: the file itself (Delta protocol, "Action Reconciliation"), that is its path and, where it has
-- a deletion vector, the unique id of the vector. Applications and domains are named by their ids and names, compared byte by byte.
use Rattle.std.specs.Prelude.{ℕ, Bool, List}
use Rattle.std.specs.declared.cmp.Ordering.{Ordering}
use Rattle.std.specs.Ordering.{eq_by_cmp}
use Rattle.action_types.specs.declared.actions.Add.{Add}
use Rattle.action_types.specs.declared.actions.Remove.{Remove}
use Rattle.action_types.specs.Files.{File, file_of_add, file_of_remove, file_cmp}
pub use Rattle.action_types.specs.Files.{name_cmp}

-- what names a data file
abbrev pub Key : Type 0
Key = File

abbrev pub key_of : Add → Key
key_of add = file_of_add add

abbrev pub key_of_remove : Remove → Key
key_of_remove remove = file_of_remove remove

abbrev pub key_cmp : Key → Key → Ordering
key_cmp = file_cmp

-- whether two keys name one file
abbrev pub same_key : Key → Key → Bool
same_key = eq_by_cmp key_cmp

-- whether two names are the same, as those of a domain
abbrev pub same_name : List ℕ → List ℕ → Bool
same_name = eq_by_cmp name_cmp

-- whether two ids name one application
abbrev pub same_app : List ℕ → List ℕ → Bool
same_app = same_name
