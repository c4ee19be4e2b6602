use Rattle.staged_commit.proofs.Once.{has-put}
use Rattle.staged_commit.proofs.laws.given_properties_are_put_and_the_others_stay.Goals as goal

pub returns : goal.returns
returns c = λ given old. has-put given old
