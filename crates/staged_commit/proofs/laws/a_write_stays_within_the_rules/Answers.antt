use Rattle.staged_commit.proofs.Following.{write-stays}
use Rattle.staged_commit.proofs.laws.a_write_stays_within_the_rules.Goals as goal

pub returns : goal.returns
returns c = λ intent base log winners version clear keeps. write-stays intent base log winners version clear keeps
