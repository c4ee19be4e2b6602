use Rattle.http_wire.proofs.Cutting.{Splits-unique}
use Rattle.http_wire.proofs.laws.bytes_are_cut_in_one_way.Goals as goal

pub returns : goal.returns
returns c = Splits-unique
