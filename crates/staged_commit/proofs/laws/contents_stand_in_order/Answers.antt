use Rattle.staged_commit.proofs.Rising.{contents-in-order}
use Rattle.staged_commit.proofs.laws.contents_stand_in_order.Goals as goal

pub returns : goal.returns
returns c = λ intent request. contents-in-order intent request
