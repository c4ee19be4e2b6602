use Rattle.table_model.proofs.Ratifying.{outcome-ratify}
use Rattle.table_model.proofs.laws.ratify_leads_later.Goals as goal

pub returns : goal.returns
returns c = λ version id time w x k r con h m t. (outcome-ratify version id time w x k r con h m t).turn.later
