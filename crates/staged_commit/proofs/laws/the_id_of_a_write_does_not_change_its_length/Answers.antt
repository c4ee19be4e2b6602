use Rattle.staged_commit.proofs.Lengths.{write-length}
use Rattle.staged_commit.proofs.laws.the_id_of_a_write_does_not_change_its_length.Goals as goal

pub returns : goal.returns
returns c = λ old intent id other time. write-length old intent id other time
