use Rattle.std.proofs.Common.{◌≡◌, length, sym, ◌∙◌, subst, eqb-true}
use Rattle.action_fields.specs.Gives.{Gives}
use Rattle.checkpoint_v2.specs.Outcome.{Read, told}
use Rattle.checkpoint_v2.proofs.Cuts.{outcome_from-empty}
use Rattle.checkpoint_v2.proofs.reading.read_lines.Goals as goal

pub returns : goal.returns
returns c =
    let none : length c.loop-rest.rest.now ≡ 0 = eqb-true _ _ (sym c.loop-rest-test.ensures) in
    subst (λ (r : Read). Gives told (λ v. v.items) c.checked.result r)
    (sym (outcome_from-empty c.args.version c.loop-rest.reading.number c.loop-rest.reading.version c.loop-rest.reading.actions.items c.loop-rest.rest.now none) ∙ c.loop-rest.invariant.says)
    c.checked.ensures
