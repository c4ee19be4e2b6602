use Rattle.conflict_rules.specs.Conflict.{conflict_with}
use Rattle.conflict_rules.proofs.Views.{first_of-lowest}
use Rattle.conflict_rules.proofs.conflict.the_lowest_is_named.Goals as goal

pub returns : goal.returns
returns c = λ intent base version winners. first_of-lowest (conflict_with intent base) version winners
