use Rattle.std.proofs.Common.{◌∙◌}
use Rattle.staged_commit.proofs.Appends.{same-after-winners}
use Rattle.staged_commit.proofs.laws.an_append_stays_within_the_rules.Goals as goal

pub returns : goal.returns
returns c = λ intent base log winners version id later_id time later_time clear h.
    same-after-winners intent base version log winners clear later_id id later_time time ∙ h
