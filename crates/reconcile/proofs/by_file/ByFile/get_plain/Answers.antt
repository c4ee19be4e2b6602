use Rattle.std.proofs.Common.{◌∙◌, ap, sym}
use Rattle.std.specs.Prelude.{None}
use Rattle.std.specs.FinMap as fin
use Rattle.reconcile.specs.ByFile.{plain_file}
use Rattle.reconcile.proofs.InFileOrder.{get-by_file}
use Rattle.reconcile.proofs.by_file.ByFile.get_plain.Goals as goal

pub returns : goal.returns
returns g c =
    c.get.ensures ∙ sym (get-by_file c.self.inside.plain c.self.inside.marked c.args.path.now None)
    ∙ ap (λ m. fin.get m (plain_file c.args.path.now)) c.self.view_is
