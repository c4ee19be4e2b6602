use Rattle.answer_names.proofs.Wholes.{together_within}
use Rattle.answer_names.proofs.laws.answers_stand_over_a_longer_log.Goals as goal

pub returns : goal.returns
returns c = together_within
