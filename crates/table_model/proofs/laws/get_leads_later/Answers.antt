use Rattle.table_model.specs.Knowledge.{newcomer}
use Rattle.table_model.proofs.Worlds.{holds-newcomer}
use Rattle.table_model.proofs.Reading.{outcome-get}
use Rattle.table_model.proofs.laws.get_leads_later.Goals as goal

pub returns : goal.returns
returns c = λ n w x r con t. (outcome-get n w x newcomer r con (holds-newcomer w) t).turn.later
