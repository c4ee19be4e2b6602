use Rattle.table_model.specs.Turns.{ListTurn}
use Rattle.table_meddler.specs.declared.foreign.Turn.TheVariants as turn
use Rattle.table_meddler.proofs.ReadWorlds.{read_refl}
use Rattle.table_meddler.proofs.Made.{refused_read, meets_made}
use Rattle.table_meddler.proofs.making.list.Goals as goal

pub returns-clause-meets : goal.returns-clause-meets
returns-clause-meets g c =
    let read = read_refl c.args.world.now c.requires.consistent in
    meets_made turn.List _ c.list.result _ _ c.made.ensures
    (λ answered. record { tested = c.args.world.now; read = read; allowed = λ t. tt; made = (c.list.result, answered, c.list.ensures.turn) })
    (refused_read (λ r. ListTurn c.args.world.now r c.list.new.self) _ _ _ _ (λ e. e) c.list.ensures.turn read c.list.ensures.consistent)
