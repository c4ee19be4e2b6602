use Rattle.std.proofs.Common.{◌∙◌, sym, string_bytes}
use Rattle.std.specs.FinMap as fin
use Rattle.reconcile.proofs.Laying.{popped}
use Rattle.reconcile.proofs.Named.{get-by_bytes, by_bytes-remove}
use Rattle.reconcile.proofs.by_name.ByName.pop.Goals as goal

pub returns-clause-some : goal.returns-clause-some
returns-clause-some g c =
    (λ i. fin.get (sym c.self.view_is i) (c.from_string.ensures i))
    ∙ get-by_bytes c.self.inside.entries (string_bytes c.in-Some.name) ∙ c.in-Some.ensures.value

pub returns-clause-rest : goal.returns-clause-rest
returns-clause-rest g c =
    by_bytes-remove c.self.inside.entries c.pop_first.new.self (string_bytes c.in-Some.name) c.in-Some.ensures.updates
    ∙ (λ i. fin.remove (c.self.view_is i) (sym c.from_string.ensures i))

pub returns-clause-shorter : goal.returns-clause-shorter
returns-clause-shorter g c =
    popped c.args.self.now _ c.from_string.result c.in-Some.value (returns-clause-some g c) (returns-clause-rest g c)
