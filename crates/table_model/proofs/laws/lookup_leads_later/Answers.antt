use Rattle.table_model.specs.Knowledge.{newcomer}
use Rattle.table_model.proofs.Worlds.{holds-newcomer}
use Rattle.table_model.proofs.Asking.{outcome-lookup}
use Rattle.table_model.proofs.laws.lookup_leads_later.Goals as goal

pub returns : goal.returns
returns c = λ version w x r con t. (outcome-lookup version w x newcomer r con (holds-newcomer w) t).turn.later
