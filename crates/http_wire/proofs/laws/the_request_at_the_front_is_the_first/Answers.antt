use Rattle.http_wire.proofs.Cutting.{Splits-first}
use Rattle.http_wire.proofs.laws.the_request_at_the_front_is_the_first.Goals as goal

pub returns : goal.returns
returns c = Splits-first
