use Rattle.text_lines.proofs.Numbering.{said-numbered}
use Rattle.text_lines.proofs.blank_lines_are_counted_and_not_said.Goals as goal

pub returns : goal.returns
returns c = said-numbered
