-- A table's catalogue and store together, as plain data.
--     stands w name     whether the file of that name stands
--     log_of w          the log: each ratified commit with the bytes of its published file where that
--                       stands, else of its staged file
use Rattle.std.specs.Prelude.{ℕ, ◌+◌, Bool, cond, List, [], ◌∷◌, Option, Some, None, unwrap_or, ℤ, pos, slice_index_or}
use Rattle.log_names.specs.declared.LogName.{LogName}
use Rattle.log_names.specs.declared.LogName.TheVariants as name
use Rattle.commit_catalog.specs.declared.Limits.{Limits}
use Rattle.commit_catalog.specs.declared.Entry.{Entry}
use Rattle.object_store.specs.Files.{Files}
use Rattle.table_model.specs.Log.{Commit}
use Rattle.table_model.specs.Files.{file_at, put_at, drop_at, stands_at}

-- the ratified commits in the order of their versions; the number of versions that were reported as published;
-- the files that the store tells of; its count of faults when it was handed in, and by how much that has
-- risen since; and whether the store tells what it holds: the told files of one that does not never change
pub record WorldData : Type 0 where
  pub records : List Entry
  pub reported : ℕ
  pub limits : Limits
  pub files : Files
  pub first : ℕ
  pub tally : ℕ
  pub tells : Bool

abbrev pub no_entry : Entry
no_entry = record { id = 0; time = pos 0 }

abbrev pub entry_at : List Entry → ℕ → Entry
entry_at records version = slice_index_or records version no_entry

abbrev pub stands : WorldData → LogName → Bool
stands w n = stands_at w.files n

-- the first of two files that stands
abbrev pub either_file : Option (List ℕ) → Option (List ℕ) → Option (List ℕ)
either_file None second = second
either_file (Some bytes) second = Some bytes

-- the file of a ratified version: the published one, else the staged one of its id
abbrev pub file_of_version : Files → ℕ → ℕ → Option (List ℕ)
file_of_version files version id = either_file (file_at files (name.Published version)) (file_at files (name.Staged version id))

abbrev pub commit_of : Files → ℕ → Entry → Commit
commit_of files version e = record { id = e.id; bytes = unwrap_or (file_of_version files version e.id) [] }

unfoldable pub commits_from : Files → ℕ → List Entry → List Commit
commits_from files version [] = []
commits_from files version (e ∷ es) = commit_of files version e ∷ commits_from files (version + 1) es

abbrev pub log_of : WorldData → List Commit
log_of w = commits_from w.files 0 w.records

-- what the store tells after a file was put, or deleted
abbrev pub told_put : WorldData → LogName → List ℕ → WorldData
told_put w n bytes = record w { files = cond w.tells (put_at w.files n bytes) w.files }

abbrev pub told_drop : WorldData → LogName → WorldData
told_drop w n = record w { files = cond w.tells (drop_at w.files n) w.files }
