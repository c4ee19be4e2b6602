use Rattle.table_model.proofs.Worlds.{later_trans}
use Rattle.table_model.proofs.laws.later_is_transitive.Goals as goal

pub returns : goal.returns
returns c = later_trans
