use Rattle.std.proofs.Common.{◌∙◌, ap, sym}
use Rattle.std.specs.FinMap as fin
use Rattle.reconcile.proofs.Named.{get-by_bytes, by_bytes-remove}
use Rattle.reconcile.proofs.by_name.ByName.take.Goals as goal

pub returns-clause-value : goal.returns-clause-value
returns-clause-value g c =
    c.remove.ensures.value ∙ sym (get-by_bytes c.self.inside.entries c.args.name.now)
    ∙ ap (λ m. fin.get m c.args.name.now) c.self.view_is

pub returns-clause-rest : goal.returns-clause-rest
returns-clause-rest g c =
    by_bytes-remove c.self.inside.entries c.remove.new.self c.args.name.now c.remove.ensures.updates
    ∙ ap (λ m. fin.remove m c.args.name.now) c.self.view_is
