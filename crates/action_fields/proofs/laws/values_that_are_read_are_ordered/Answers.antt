use Rattle.action_fields.proofs.Reading.{ordered-read}
use Rattle.action_fields.proofs.laws.values_that_are_read_are_ordered.Goals as goal

pub returns : goal.returns
returns c = ordered-read
