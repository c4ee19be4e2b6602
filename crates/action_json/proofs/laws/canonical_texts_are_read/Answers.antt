use Rattle.action_json.proofs.Again.{outcome-canonical_text}
use Rattle.action_json.proofs.laws.canonical_texts_are_read.Goals as goal

pub returns : goal.returns
returns c = outcome-canonical_text
