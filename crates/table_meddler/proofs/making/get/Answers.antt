use Rattle.table_model.specs.Turns.{GetTurn}
use Rattle.std.proofs.Common.{rules}
use Rattle.table_meddler.specs.declared.foreign.Turn.TheVariants as turn
use Rattle.table_meddler.proofs.ReadWorlds.{read_refl}
use Rattle.table_meddler.proofs.Made.{refused_read, meets_made}
use Rattle.table_meddler.proofs.making.get.Goals as goal

pub returns-clause-meets : goal.returns-clause-meets
returns-clause-meets g c =
    let read = read_refl c.args.world.now c.requires.consistent in
    meets_made (turn.Get c.args.name) _ c.get.result _ _ c.made.ensures
    (λ answered. record { tested = c.args.world.now; read = read; allowed = λ t. search rules; made = (c.get.result, answered, c.get.ensures.turn) })
    (refused_read (λ r. GetTurn c.args.name c.args.world.now r c.get.new.self) _ _ _ _ (λ e. e) c.get.ensures.turn read c.get.ensures.consistent)
