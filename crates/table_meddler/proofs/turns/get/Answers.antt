use Rattle.std.proofs.Common.{refl}
use Rattle.table_model.specs.Learning.{LearnsGet}
use Rattle.table_model.specs.Turns.{GetTurn}
use Rattle.table_model.specs.Noted.{known_of}
use Rattle.table_meddler.proofs.Afterwards.{known_on, done_among, refused_among}
use Rattle.table_meddler.proofs.turns.get.Goals as goal

pub get-requires-clause-known : goal.get-requires-clause-known
get-requires-clause-known g c = known_on _ _ _ c.requires.known c.meddle.ensures.leads

pub returns : goal.returns
returns g c = done_among (GetTurn c.args.name) c.get.result (λ t k. LearnsGet t c.args.name k c.get.result (known_of c.get.new.world c.get.new.notes)) c.args.others.now c.args.number _ _ _ _ _ c.requires.known c.meddle.ensures.leads c.in_ok-meddle.ensures.made c.get.ensures

pub returns-in_err-meddle : goal.returns-in_err-meddle
returns-in_err-meddle g c = refused_among (GetTurn c.args.name) c.from_residual.result (λ t k r m. LearnsGet t c.args.name k r m) c.args.others.now c.args.number _ _ _ c.from_residual.ensures.1 (λ t k. refl) c.requires.known c.meddle.ensures.leads c.in_err-meddle.ensures.made
