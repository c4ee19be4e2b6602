use Rattle.std.proofs.Common.{◌∙◌, ap}
use Rattle.std.specs.FinMap as fin
use Rattle.reconcile.proofs.Named.{by_bytes-remove}
use Rattle.reconcile.proofs.by_name.ByName.remove.Goals as goal

pub returns : goal.returns
returns g c =
    by_bytes-remove c.self.inside.entries c.remove.new.self c.args.name.now c.remove.ensures.updates
    ∙ ap (λ m. fin.remove m c.args.name.now) c.self.view_is
