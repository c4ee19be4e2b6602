use Rattle.action_json.proofs.Sound.{one_reading}
use Rattle.action_json.proofs.laws.commit_texts_have_one_reading.Goals as goal

pub returns : goal.returns
returns c = one_reading
