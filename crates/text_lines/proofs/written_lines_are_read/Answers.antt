use Rattle.text_lines.proofs.Writing.{cut-written}
use Rattle.text_lines.proofs.written_lines_are_read.Goals as goal

pub returns : goal.returns
returns c = cut-written
