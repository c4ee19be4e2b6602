use Rattle.std.proofs.Common.{sym}
use Rattle.conflict_rules.proofs.Views.{first_decides, rest_decides}
use Rattle.conflict_rules.proofs.conflict.of_files.Goals as goal

pub returns-in-Some : goal.returns-in-Some
returns-in-Some c = first_decides _ _ _ (rw c.as_slice.ensures at c.in-Some.ensures)

pub returns-in-None : goal.returns-in-None
returns-in-None c = rest_decides _ _ _ (sym (rw c.as_slice.ensures at c.in-None.ensures)) c.of_reads.ensures
