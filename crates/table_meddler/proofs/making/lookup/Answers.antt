use Rattle.table_model.specs.Turns.{LookupTurn}
use Rattle.table_meddler.specs.declared.foreign.Turn.TheVariants as turn
use Rattle.table_meddler.proofs.ReadWorlds.{read_refl}
use Rattle.table_meddler.proofs.Made.{refused_read, meets_made}
use Rattle.table_meddler.proofs.making.lookup.Goals as goal

pub returns-clause-meets : goal.returns-clause-meets
returns-clause-meets g c =
    let read = read_refl c.args.world.now c.requires.consistent in
    meets_made (turn.Lookup c.args.version) _ c.lookup.result _ _ c.made.ensures
    (λ answered. record { tested = c.args.world.now; read = read; allowed = λ t. tt; made = (c.lookup.result, answered, c.lookup.ensures.turn) })
    (refused_read (λ r. LookupTurn c.args.version c.args.world.now r c.lookup.new.self) _ _ _ _ (λ e. e) c.lookup.ensures.turn read c.lookup.ensures.consistent)
