use Rattle.std.proofs.Common.{◌∙◌, ap, sym}
use Rattle.std.specs.Prelude.{Some}
use Rattle.reconcile.specs.Left.{ahead, first_name}
use Rattle.reconcile.proofs.ahead.Ahead.name.Goals as goal

pub returns-in-Some : goal.returns-in-Some
returns-in-Some g c =
    ap (λ s. Some s) c.as_str.ensures.value
    ∙ ap first_name (ap (λ f. ahead f c.self.inside.rest) (sym c.in-Some.is) ∙ c.self.view_is)

pub returns-in-None : goal.returns-in-None
returns-in-None g c = ap first_name (ap (λ f. ahead f c.self.inside.rest) (sym c.in-None.is) ∙ c.self.view_is)
