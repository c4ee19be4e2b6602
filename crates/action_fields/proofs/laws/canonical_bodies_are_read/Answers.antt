use Rattle.action_fields.proofs.Bodies.{body_of-body_data}
use Rattle.action_fields.proofs.laws.canonical_bodies_are_read.Goals as goal

pub returns : goal.returns
returns c = body_of-body_data
