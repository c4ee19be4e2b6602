use Rattle.std.proofs.Common.{refl}
use Rattle.table_model.specs.Learning.{LearnsStage}
use Rattle.table_model.specs.Turns.{StageTurn}
use Rattle.table_model.specs.Noted.{known_of}
use Rattle.table_meddler.proofs.Afterwards.{known_on, done_among, refused_among}
use Rattle.table_meddler.proofs.turns.stage.Goals as goal

pub stage-requires : goal.stage-requires
stage-requires g c = record { known = known_on _ _ _ c.requires.known c.meddle.ensures.leads }

pub returns : goal.returns
returns g c = done_among (StageTurn c.args.version c.args.id c.args.bytes.now) c.stage.result (λ t k. LearnsStage c.args.version c.args.id c.args.bytes.now k c.stage.result (known_of c.stage.new.world c.stage.new.notes)) c.args.others.now c.args.number _ _ _ _ _ c.requires.known c.meddle.ensures.leads c.in_ok-meddle.ensures.made c.stage.ensures

pub returns-in_err-meddle : goal.returns-in_err-meddle
returns-in_err-meddle g c = refused_among (StageTurn c.args.version c.args.id c.args.bytes.now) c.from_residual.result (λ t k r m. LearnsStage c.args.version c.args.id c.args.bytes.now k r m) c.args.others.now c.args.number _ _ _ c.from_residual.ensures.1 (λ t k. refl) c.requires.known c.meddle.ensures.leads c.in_err-meddle.ensures.made
