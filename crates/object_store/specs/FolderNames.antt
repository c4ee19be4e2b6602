-- The names of the files of a folder: those at its top, and those in `_staged_commits`, each relative to the folder.
use Rattle.std.specs.Prelude.{ℕ, Bool, not, ◌&&◌, ◌==◌, List, [], length, drop, Option, Some, None, nat_eq, nat_le, if◌then◌else◌, codes, bytes_eq}
use Rattle.std.specs.List.{list_any, starts_with}
use Rattle.object_store.specs.declared.disk.Folder.{Folder}
use Rattle.object_store.specs.declared.disk.Folder.TheVariants as folder

-- a name within one folder: it has no slash, is neither the folder itself nor the one above, and is none of those that a file has while it is put
unfoldable pub is_file_name : List ℕ → Bool
is_file_name name =
    not (bytes_eq name [])
    && nat_le (length name) 255
    && not (list_any (λ b. b == 47) name)
    && not (list_any (λ b. b == 0) name)
    && not (bytes_eq name (codes "."))
    && not (bytes_eq name (codes ".."))
    && not (starts_with nat_eq name (codes ".put-"))

-- the folder that the file of that name stands in; none where the name is that of no file of the two
unfoldable pub folder_of : List ℕ → Option Folder
folder_of name =
    if starts_with nat_eq name (codes "_staged_commits/")
    then (if is_file_name (drop 16 name) then Some folder.Staged else None)
    else (if is_file_name name then Some folder.Log else None)
