use Rattle.std.proofs.Common.{◌≡◌, length, sym, ◌∙◌, eqb-true}
use Rattle.checkpoint_v2.proofs.Quickly.{said_from-empty}
use Rattle.checkpoint_v2.proofs.quick.read_said.Goals as goal

pub returns-clause-said : goal.returns-clause-said
returns-clause-said c =
    let none : length c.loop-rest.rest.now ≡ 0 = eqb-true _ _ (sym c.loop-rest-test.ensures) in
    sym c.loop-rest.invariant.says ∙ said_from-empty c.loop-rest.quick.version c.loop-rest.quick.actions.items c.loop-rest.rest.now none
