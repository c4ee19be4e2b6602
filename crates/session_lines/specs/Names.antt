-- What names a file, as a key of a set: its path, and the unique id of its vector where it has one.
use Rattle.std.specs.Prelude.{List, ℕ, Option}
use Rattle.std.specs.declared.cmp.Ordering.{Ordering}
use Rattle.std.specs.Ordering.{ordering_then}
use Rattle.action_types.specs.declared.actions.Add.{Add}
use Rattle.action_types.specs.Files.{File, file_of_add, id_cmp, name_cmp}
use Rattle.session_lines.specs.declared.files.FileName.{FileName}

abbrev pub name_of_add : Add → FileName
name_of_add a = record { path = (file_of_add a).path; id = (file_of_add a).id }

abbrev pub file_of_name : FileName → File
file_of_name n = record { path = n.path; id = n.id }

-- the order of files
abbrev pub order : FileName → FileName → Ordering
order m n = ordering_then (name_cmp m.path n.path) (id_cmp m.id n.id)
