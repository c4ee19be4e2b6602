-- The file that two texts name.
use Rattle.action_types.specs.Files.{File}
use Rattle.reconcile.specs.declared.by_file.FileName.{FileName}

abbrev pub named_file : FileName → File
named_file name = record { path = name.path; id = name.id }
