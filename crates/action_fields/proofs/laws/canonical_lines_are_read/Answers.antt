use Rattle.action_fields.proofs.Lines.{read-canonical_line}
use Rattle.action_fields.proofs.laws.canonical_lines_are_read.Goals as goal

pub returns : goal.returns
returns c = read-canonical_line
