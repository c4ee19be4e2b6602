use Rattle.table_model.specs.Knowledge.{newcomer}
use Rattle.table_model.proofs.Worlds.{holds-newcomer}
use Rattle.table_model.proofs.Asking.{outcome-commits}
use Rattle.table_model.proofs.laws.commits_leads_later.Goals as goal

pub returns : goal.returns
returns c = λ w x r con t. (outcome-commits w x newcomer r con (holds-newcomer w) t).turn.later
