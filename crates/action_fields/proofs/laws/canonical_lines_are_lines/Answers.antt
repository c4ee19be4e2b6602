use Rattle.action_fields.proofs.Lines.{one_line-canonical_line}
use Rattle.action_fields.proofs.laws.canonical_lines_are_lines.Goals as goal

pub returns : goal.returns
returns c = one_line-canonical_line
