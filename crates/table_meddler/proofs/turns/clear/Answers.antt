use Rattle.std.proofs.Common.{refl}
use Rattle.table_model.specs.Conditions.{MayClear}
use Rattle.table_model.specs.Learning.{LearnsClear}
use Rattle.table_model.specs.Turns.{ClearTurn}
use Rattle.table_model.specs.Noted.{known_of}
use Rattle.table_meddler.proofs.Afterwards.{known_on, done_among, refused_among, may_on}
use Rattle.table_meddler.proofs.turns.clear.Goals as goal

pub clear-requires-clause-known : goal.clear-requires-clause-known
clear-requires-clause-known g c = known_on _ _ _ c.requires.known c.meddle.ensures.leads

pub clear-requires-clause-may : goal.clear-requires-clause-may
clear-requires-clause-may g c = may_on (λ k. MayClear k c.args.version) _ _ _ c.requires.known c.meddle.ensures.leads c.requires.may

pub returns : goal.returns
returns g c = done_among (ClearTurn c.args.version c.args.id) c.clear.result (λ t k. LearnsClear c.args.version c.args.id k c.clear.result (known_of c.clear.new.world c.clear.new.notes)) c.args.others.now c.args.number _ _ _ _ _ c.requires.known c.meddle.ensures.leads c.in_ok-meddle.ensures.made c.clear.ensures

pub returns-in_err-meddle : goal.returns-in_err-meddle
returns-in_err-meddle g c = refused_among (ClearTurn c.args.version c.args.id) c.from_residual.result (λ t k r m. LearnsClear c.args.version c.args.id k r m) c.args.others.now c.args.number _ _ _ c.from_residual.ensures.1 (λ t k. refl) c.requires.known c.meddle.ensures.leads c.in_err-meddle.ensures.made
