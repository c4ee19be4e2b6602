use Rattle.staged_commit.proofs.Once.{features-once}
use Rattle.staged_commit.proofs.laws.features_stand_once_in_byte_order.Goals as goal

pub returns : goal.returns
returns c = λ asked. features-once asked
