use Rattle.std.proofs.Common.{◌∙◌, ap}
use Rattle.reconcile.specs.Left.{values_in}
use Rattle.reconcile.proofs.merge.FilesLeft.open_marked.Goals as goal

pub returns-clause-given : goal.returns-clause-given
returns-clause-given g c = c.values_of-self.ensures ∙ ap values_in c.take.ensures.value
