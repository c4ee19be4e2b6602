use Rattle.text_lines.proofs.Writing.{cut-makes}
use Rattle.text_lines.proofs.lines_make_the_text.Goals as goal

pub returns : goal.returns
returns c = cut-makes
