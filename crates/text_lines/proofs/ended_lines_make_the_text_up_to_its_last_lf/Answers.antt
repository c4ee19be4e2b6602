use Rattle.text_lines.proofs.Writing.{ended-makes}
use Rattle.text_lines.proofs.ended_lines_make_the_text_up_to_its_last_lf.Goals as goal

pub returns : goal.returns
returns c = ended-makes
