use Rattle.std.proofs.Common.{arith}
use Rattle.publisher.proofs.laws.settled_is_published.Goals as goal

pub returns : goal.returns
returns c = λ w con settled tells version. ((con.filed tells).ratified version, λ less. (con.filed tells).reported version (omega (arith, settled.reported, less)))
