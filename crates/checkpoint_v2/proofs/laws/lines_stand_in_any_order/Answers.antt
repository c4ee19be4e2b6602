use Rattle.checkpoint_v2.proofs.Orders.{checkpoint_moved}
use Rattle.checkpoint_v2.proofs.laws.lines_stand_in_any_order.Goals as goal

pub returns : goal.returns
returns c = checkpoint_moved
