use Rattle.std.proofs.Common.{◌∙◌, ap, sym}
use Rattle.std.specs.FinMap as fin
use Rattle.reconcile.proofs.Named.{get-by_bytes}
use Rattle.reconcile.proofs.by_name.ByName.get.Goals as goal

pub returns : goal.returns
returns g c = c.get.ensures.value ∙ sym (get-by_bytes c.self.inside.entries c.args.name.now) ∙ ap (λ m. fin.get m c.args.name.now) c.self.view_is
