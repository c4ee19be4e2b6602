use Rattle.staged_commit.proofs.Lengths.{create-length}
use Rattle.staged_commit.proofs.laws.the_id_of_a_create_does_not_change_its_length.Goals as goal

pub returns : goal.returns
returns c = λ create id other time. create-length create id other time
