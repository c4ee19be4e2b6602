use Rattle.checkpoint_v2.proofs.Sound.{told_outcome}
use Rattle.checkpoint_v2.proofs.laws.readings_are_checkpoint_texts_or_faults.Goals as goal

pub returns : goal.returns
returns c = told_outcome
