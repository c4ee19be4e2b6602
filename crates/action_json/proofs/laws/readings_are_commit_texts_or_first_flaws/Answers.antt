use Rattle.action_json.proofs.Sound.{told_outcome}
use Rattle.action_json.proofs.laws.readings_are_commit_texts_or_first_flaws.Goals as goal

pub returns : goal.returns
returns c = told_outcome
