use Rattle.table_model.specs.Knowledge.{newcomer}
use Rattle.table_model.proofs.Worlds.{holds-newcomer}
use Rattle.table_model.proofs.Calls.{outcome-stage}
use Rattle.table_model.proofs.laws.stage_leads_later.Goals as goal

pub returns : goal.returns
returns c = λ text w x r con t. (outcome-stage c.args.version c.args.id text w x newcomer r con (holds-newcomer w) c.ranges.version.fits c.ranges.id.fits t).turn.later
