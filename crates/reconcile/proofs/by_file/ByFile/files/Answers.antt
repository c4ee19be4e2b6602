use Rattle.std.proofs.Common.{◌∙◌, ap}
use Rattle.std.specs.FinMap as fin
use Rattle.reconcile.proofs.by_file.ByFile.files.Goals as goal

pub returns : goal.returns
returns g c = c.new.ensures ∙ ap fin.values c.self.view_is
