use Rattle.std.proofs.Common.{◌∙◌, ap, sym}
use Rattle.std.specs.Option.{option_copied}
use Rattle.reconcile.specs.Left.{values_in}
use Rattle.reconcile.proofs.merge.values_of.Goals as goal

pub returns-in-Some : goal.returns-in-Some
returns-in-Some g c = c.values.ensures ∙ ap (λ f. values_in (option_copied f)) (sym c.in-Some.is)

pub returns-in-None : goal.returns-in-None
returns-in-None g c = ap (λ f. values_in (option_copied f)) (sym c.in-None.is)
