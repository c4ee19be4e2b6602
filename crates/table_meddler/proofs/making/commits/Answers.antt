use Rattle.table_model.specs.Turns.{CommitsTurn}
use Rattle.table_meddler.specs.declared.foreign.Turn.TheVariants as turn
use Rattle.table_meddler.proofs.ReadWorlds.{read_refl}
use Rattle.table_meddler.proofs.Made.{refused_read, meets_made}
use Rattle.table_meddler.proofs.making.commits.Goals as goal

pub returns-clause-meets : goal.returns-clause-meets
returns-clause-meets g c =
    let read = read_refl c.args.world.now c.requires.consistent in
    meets_made turn.Commits _ c.commits.result _ _ c.made.ensures
    (λ answered. record { tested = c.args.world.now; read = read; allowed = λ t. tt; made = (c.commits.result, answered, c.commits.ensures.turn) })
    (refused_read (λ r. CommitsTurn c.args.world.now r c.commits.new.self) _ _ _ _ (λ e. e) c.commits.ensures.turn read c.commits.ensures.consistent)
