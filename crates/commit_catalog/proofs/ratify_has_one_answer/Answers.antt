use Rattle.commit_catalog.proofs.Answers.{one_answer}
use Rattle.commit_catalog.proofs.ratify_has_one_answer.Goals as goal

pub returns : goal.returns
returns c = one_answer
