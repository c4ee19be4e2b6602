use Rattle.staged_commit.proofs.InOrder.{in-order}
use Rattle.staged_commit.proofs.laws.files_stand_in_order.Goals as goal

pub returns : goal.returns
returns c = λ adds h. in-order adds h
