use Rattle.std.proofs.Common.{◌∙◌}
use Rattle.reconcile.specs.ByFile.{by_file}
use Rattle.reconcile.proofs.by_file.ByFile.copy.Goals as goal

pub returns : goal.returns
returns g c = (λ i. by_file (c.in_ok-plain.ensures i) (c.in_ok-marked.ensures i)) ∙ c.self.view_is
