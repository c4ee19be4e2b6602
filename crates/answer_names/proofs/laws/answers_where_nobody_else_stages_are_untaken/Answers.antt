use Rattle.answer_names.proofs.Others.{chain_untaken}
use Rattle.answer_names.proofs.laws.answers_where_nobody_else_stages_are_untaken.Goals as goal

pub returns : goal.returns
returns c = chain_untaken
