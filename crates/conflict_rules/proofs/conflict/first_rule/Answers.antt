use Rattle.std.proofs.Common.{sym}
use Rattle.conflict_rules.proofs.Views.{rest_decides}
use Rattle.conflict_rules.proofs.conflict.first_rule.Goals as goal

pub returns : goal.returns
returns c =
    rest_decides _ _ _ (sym c.in_default.ensures)
    (rest_decides _ _ _ (sym c.in_default-of_files.ensures) (rw c.as_slice.ensures at c.by_domain.ensures))
