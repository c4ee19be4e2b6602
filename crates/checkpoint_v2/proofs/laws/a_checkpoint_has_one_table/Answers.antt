use Rattle.checkpoint_v2.proofs.Orders.{one_table}
use Rattle.checkpoint_v2.proofs.laws.a_checkpoint_has_one_table.Goals as goal

pub returns : goal.returns
returns c = one_table
