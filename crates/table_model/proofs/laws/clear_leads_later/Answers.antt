use Rattle.table_model.proofs.Calls.{outcome-clear}
use Rattle.table_model.proofs.laws.clear_leads_later.Goals as goal

pub returns : goal.returns
returns c = λ w x k r con h m t. (outcome-clear c.args.version c.args.id w x k r con h c.ranges.version.fits c.ranges.id.fits m t).turn.later
