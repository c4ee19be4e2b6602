use Rattle.table_model.proofs.Worlds.{holds_later}
use Rattle.table_model.proofs.laws.holding_is_kept.Goals as goal

pub returns : goal.returns
returns c = holds_later
