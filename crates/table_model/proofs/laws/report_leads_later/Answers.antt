use Rattle.table_model.proofs.Calls.{outcome-report}
use Rattle.table_model.proofs.laws.report_leads_later.Goals as goal

pub returns : goal.returns
returns c = λ count w x k r con h m t. (outcome-report count w x k r con h m t).turn.later
