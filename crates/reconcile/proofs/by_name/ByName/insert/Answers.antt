use Rattle.std.proofs.Common.{◌∙◌, ap, string_bytes}
use Rattle.std.specs.FinMap as fin
use Rattle.reconcile.specs.Named.{by_bytes}
use Rattle.reconcile.proofs.Named.{by_bytes-insert}
use Rattle.reconcile.proofs.by_name.ByName.insert.Goals as goal

pub returns-clause-ok : goal.returns-clause-ok
returns-clause-ok g c =
    by_bytes-insert c.self.inside.entries c.insert.new.self (string_bytes c.into_string.result) c.args.value c.in_ok-insert.ensures.updates
    ∙ ap (λ k. fin.insert (by_bytes c.self.inside.entries) k c.args.value) c.into_string.ensures
    ∙ ap (λ m. fin.insert m c.args.name c.args.value) c.self.view_is
