use Rattle.answer_names.proofs.Chains.{chain_together}
use Rattle.answer_names.proofs.laws.answers_in_a_chain_are_right_together.Goals as goal

pub returns : goal.returns
returns c = chain_together
