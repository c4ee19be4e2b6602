use Rattle.text_lines.proofs.Writing.{cut-no_lf}
use Rattle.text_lines.proofs.lines_have_no_lf.Goals as goal

pub returns : goal.returns
returns c = cut-no_lf
