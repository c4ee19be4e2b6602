use Rattle.answer_names.proofs.Others.{chain_uncontested}
use Rattle.answer_names.proofs.laws.answers_where_nobody_else_ratifies_are_uncontested.Goals as goal

pub returns : goal.returns
returns c = chain_uncontested
