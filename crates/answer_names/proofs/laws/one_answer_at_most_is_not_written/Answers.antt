use Rattle.answer_names.proofs.Wholes.{answers_whole}
use Rattle.answer_names.proofs.laws.one_answer_at_most_is_not_written.Goals as goal

pub returns : goal.returns
returns c = answers_whole
