use Rattle.std.proofs.Common.{◌∙◌, ap, sym}
use Rattle.std.specs.FinMap as fin
use Rattle.reconcile.specs.Named.{named}
use Rattle.reconcile.proofs.Named.{entries-by_bytes}
use Rattle.reconcile.proofs.by_name.ByName.entries.Goals as goal

pub returns : goal.returns
returns g c =
    ap named c.iter.ensures.rest ∙ sym (entries-by_bytes c.self.inside.entries c.iter.ensures.ordered)
    ∙ ap fin.entries c.self.view_is
