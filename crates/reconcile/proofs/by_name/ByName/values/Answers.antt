use Rattle.std.proofs.Common.{◌∙◌, ap, sym}
use Rattle.std.specs.FinMap as fin
use Rattle.reconcile.proofs.Named.{values-by_bytes}
use Rattle.reconcile.proofs.by_name.ByName.values.Goals as goal

pub returns : goal.returns
returns g c = c.values.ensures.rest ∙ sym (values-by_bytes c.self.inside.entries c.values.ensures.ordered) ∙ ap fin.values c.self.view_is
