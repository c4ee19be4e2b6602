-- The files of a log's folder under the names of the log.
--     file_at files name        the bytes of the file of that name, if it stands
--     put_at files name bytes   the files where it stands with these bytes
--     drop_at files name        the files where it does not stand
use Rattle.std.specs.Prelude.{ℕ, ◌^◌, ◌&&◌, Bool, true, List, Option, Some, None, is_some, option_and_then, if◌then◌else◌, nat_lt}
use Rattle.log_names.specs.declared.LogName.{LogName}
use Rattle.log_names.specs.declared.LogName.TheVariants.{Published, Staged, Checkpoint, Parquet, Other}
use Rattle.log_names.specs.Texts.{name_text}
use Rattle.object_store.specs.Files.{Files, file_of, with_file, without_file}

-- versions have 64 bits and ids have 128
abbrev pub fits : LogName → Bool
fits (Published version) = nat_lt version (2 ^ 64)
fits (Staged version id) = nat_lt version (2 ^ 64) && nat_lt id (2 ^ 128)
fits (Checkpoint version id) = nat_lt version (2 ^ 64) && nat_lt id (2 ^ 128)
fits (Parquet version) = nat_lt version (2 ^ 64)
fits Other = true

unfoldable pub file_at : Files → LogName → Option (List ℕ)
file_at files name = if fits name then option_and_then (file_of files) (name_text name) else None

abbrev pub put_text : Files → Option (List ℕ) → List ℕ → Files
put_text files None bytes = files
put_text files (Some text) bytes = with_file files text bytes

unfoldable pub put_at : Files → LogName → List ℕ → Files
put_at files name bytes = put_text files (name_text name) bytes

abbrev pub drop_text : Files → Option (List ℕ) → Files
drop_text files None = files
drop_text files (Some text) = without_file files text

unfoldable pub drop_at : Files → LogName → Files
drop_at files name = drop_text files (name_text name)

abbrev pub stands_at : Files → LogName → Bool
stands_at files name = is_some (file_at files name)
