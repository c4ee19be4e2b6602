use Rattle.std.proofs.Common.{◌∙◌}
use Rattle.reconcile.specs.ByFile.{by_file}
use Rattle.reconcile.proofs.ByFile.{by_file-none}
use Rattle.reconcile.proofs.by_file.ByFile.new.Goals as goal

pub returns : goal.returns
returns g c = (λ i. by_file (c.new.ensures i) (c.new-2.ensures i)) ∙ by_file-none
