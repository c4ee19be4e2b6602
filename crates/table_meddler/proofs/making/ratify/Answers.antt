use Rattle.table_model.specs.Turns.{RatifyTurn}
use Rattle.std.proofs.Common.{sym, subst}
use Rattle.std.specs.Prelude.{ℤ}
use mir.Syntax.{w64}
use Rattle.std.proofs.lemmas.Int.{to_z-of_z}
use Rattle.table_world.proofs.Kept.{Ratifiable}
use Rattle.table_meddler.specs.declared.foreign.Turn.TheVariants as turn
use Rattle.table_meddler.proofs.ReadWorlds.{leads_read, leads_trans}
use Rattle.table_meddler.proofs.Made.{refused_read, meets_made, next_on, ratify_ready, leads_ratify}
use Rattle.table_meddler.proofs.making.ratify.Goals as goal

pub ratify-requires : goal.ratify-requires
ratify-requires g c =
    let time = to_z-of_z w64 c.args.time c.ranges.time in
    let tests = rw time at c.in-Ok-true.ensures.tests in
    let P : ℤ → Type 0 = λ z. Ratifiable c.args.version c.args.id z c.may_ratify.new.world in
    subst P (sym time) (ratify_ready _ _ c.args.version c.args.id c.args.time c.in-Ok-true.ensures.read (c.in-Ok-true.ensures.next c.in-Ok-true.field-0-test) (λ t. (tests t).0 c.in-Ok-true.field-0-test))

pub returns-clause-meets : goal.returns-clause-meets
returns-clause-meets g c =
    let time = to_z-of_z w64 c.args.time c.ranges.time in
    let tests = rw time at c.in-Ok-true.ensures.tests in
    let turned = rw time at c.ratify.ensures.turn in
    meets_made (turn.Ratify c.args.version c.args.id c.args.time) _ c.ratify.result _ _ c.made.ensures
    (λ answered. record { tested = c.may_ratify.new.world; read = c.in-Ok-true.ensures.read; allowed = λ t. next_on _ _ c.args.version c.args.id c.args.time c.in-Ok-true.ensures.read ((tests t).0 c.in-Ok-true.field-0-test); made = (c.ratify.result, answered, turned) })
    (refused_read (λ r. RatifyTurn c.args.version c.args.id c.args.time c.may_ratify.new.world r c.ratify.new.self) _ _ _ _ (λ e. e) turned c.in-Ok-true.ensures.read c.ratify.ensures.consistent)

pub returns-clause-leads : goal.returns-clause-leads
returns-clause-leads g c =
    let time = to_z-of_z w64 c.args.time c.ranges.time in
    let tests = rw time at c.in-Ok-true.ensures.tests in
    leads_trans _ _ _ (leads_read _ _ c.in-Ok-true.ensures.read) (leads_ratify c.args.version c.args.id c.args.time _ _ c.ratify.result c.in-Ok-true.ensures.read.consistent (ratify_ready _ _ c.args.version c.args.id c.args.time c.in-Ok-true.ensures.read (c.in-Ok-true.ensures.next c.in-Ok-true.field-0-test) (λ t. (tests t).0 c.in-Ok-true.field-0-test)) (rw time at c.ratify.ensures.turn) c.ratify.ensures.consistent)
