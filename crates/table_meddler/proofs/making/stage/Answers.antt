use Rattle.std.proofs.Common.{ℕ, List, subst}
use Rattle.table_model.specs.Turns.{StageTurn}
use Rattle.table_meddler.specs.declared.foreign.Turn.TheVariants as turn
use Rattle.table_meddler.proofs.ReadWorlds.{read_refl}
use Rattle.table_meddler.proofs.Made.{refused_read, meets_made, leads_stage}
use Rattle.table_meddler.proofs.making.stage.Goals as goal

pub returns-clause-meets : goal.returns-clause-meets
returns-clause-meets g c =
    let read = read_refl c.args.world.now c.requires.consistent in
    let P : List ℕ → Type 0 = λ t. StageTurn c.args.version c.args.id t c.args.world.now c.stage.result c.stage.new.self in
    let turned = subst P c.as_slice.ensures.value c.stage.ensures.turn in
    meets_made (turn.Stage c.args.version c.args.id c.args.bytes.now) _ c.stage.result _ _ c.made.ensures
    (λ answered. record { tested = c.args.world.now; read = read; allowed = λ t. tt; made = (c.stage.result, answered, turned) })
    (refused_read (λ r. StageTurn c.args.version c.args.id c.args.bytes.now.items c.args.world.now r c.stage.new.self) _ _ _ _ (λ e. e) turned read c.stage.ensures.consistent)

pub returns-clause-leads : goal.returns-clause-leads
returns-clause-leads g c = leads_stage c.args.version c.args.id _ _ _ c.stage.result c.requires.consistent c.ranges.version.fits c.ranges.id.fits c.stage.ensures.turn c.stage.ensures.consistent
