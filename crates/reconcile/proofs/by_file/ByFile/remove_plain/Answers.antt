use Rattle.std.proofs.Common.{◌∙◌, ap}
use Rattle.std.specs.FinMap as fin
use Rattle.reconcile.specs.ByFile.{plain_file}
use Rattle.reconcile.proofs.ByFile.{by_file-remove_plain}
use Rattle.reconcile.proofs.by_file.ByFile.remove_plain.Goals as goal

pub returns : goal.returns
returns g c =
    by_file-remove_plain c.self.inside.plain c.remove.new.self c.self.inside.marked c.args.path.now c.remove.ensures
    ∙ ap (λ m. fin.remove m (plain_file c.args.path.now)) c.self.view_is
