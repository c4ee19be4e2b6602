use Rattle.std.proofs.Common.{◌≡◌, length, sym, ◌∙◌, eqb-true}
use Rattle.action_json.proofs.Cuts.{outcome_from-empty}
use Rattle.action_json.proofs.reading.read_lines.Goals as goal

pub returns : goal.returns
returns c =
    let none : length c.loop-rest.rest.now ≡ 0 = eqb-true _ _ (sym c.loop-rest-test.ensures) in
    sym c.loop-rest.invariant.says ∙ outcome_from-empty c.loop-rest.reading.number c.loop-rest.reading.actions.items c.loop-rest.rest.now none
