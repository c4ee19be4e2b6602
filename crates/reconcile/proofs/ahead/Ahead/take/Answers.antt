use Rattle.std.proofs.Common.{◌∙◌, ap, sym}
use Rattle.reconcile.specs.Left.{ahead, first_value, rest_of}
use Rattle.reconcile.proofs.Walking.{ahead_next}
use Rattle.reconcile.proofs.ahead.Ahead.take.Goals as goal

pub returns-in-Some-clause-value : goal.returns-in-Some-clause-value
returns-in-Some-clause-value g c = ap first_value (ap (λ f. ahead f c.self.inside.rest) (sym c.in-Some.is) ∙ c.self.view_is)

pub returns-in-Some-clause-rest : goal.returns-in-Some-clause-rest
returns-in-Some-clause-rest g c =
    ahead_next c.next-self-inside.result c.self.inside.rest c.next-self-inside.new.self c.next-self-inside.ensures.steps
    ∙ ap rest_of (ap (λ f. ahead f c.self.inside.rest) (sym c.in-Some.is) ∙ c.self.view_is)

pub returns-in-None-clause-value : goal.returns-in-None-clause-value
returns-in-None-clause-value g c = ap first_value (ap (λ f. ahead f c.self.inside.rest) (sym c.in-None.is) ∙ c.self.view_is)

pub returns-in-None-clause-rest : goal.returns-in-None-clause-rest
returns-in-None-clause-rest g c =
    let none = ap (λ f. ahead f c.self.inside.rest) (sym c.in-None.is) ∙ c.self.view_is in
    sym none ∙ ap rest_of none
