use Rattle.std.proofs.Common.{◌∙◌, sym}
use Rattle.reconcile.proofs.Named.{by_bytes-none}
use Rattle.reconcile.proofs.by_name.ByName.is_empty.Goals as goal

pub returns : goal.returns
returns g c = λ t. sym c.self.view_is ∙ by_bytes-none c.self.inside.entries (c.is_empty.ensures.0 t)
