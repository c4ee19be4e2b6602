use Rattle.table_model.proofs.Calls.{outcome-publish}
use Rattle.table_model.proofs.laws.publish_leads_later.Goals as goal

pub returns : goal.returns
returns c = λ text w x k r con h m t. (outcome-publish c.args.version text w x k r con h c.ranges.version.fits m t).turn.later
