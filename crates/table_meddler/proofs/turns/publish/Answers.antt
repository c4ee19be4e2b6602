use Rattle.std.proofs.Common.{refl}
use Rattle.table_model.specs.Learning.{LearnsPublish}
use Rattle.table_model.specs.Turns.{PublishTurn}
use Rattle.table_model.specs.Noted.{known_of}
use Rattle.table_meddler.proofs.Afterwards.{known_on, done_among, refused_among, may_publish_on}
use Rattle.table_meddler.proofs.turns.publish.Goals as goal

pub publish-requires-clause-known : goal.publish-requires-clause-known
publish-requires-clause-known g c = known_on _ _ _ c.requires.known c.meddle.ensures.leads

pub publish-requires-clause-may : goal.publish-requires-clause-may
publish-requires-clause-may g c = may_publish_on _ _ _ c.args.version c.args.bytes.now c.requires.known c.meddle.ensures.leads c.requires.may

pub returns : goal.returns
returns g c = done_among (PublishTurn c.args.version c.args.bytes.now) c.publish.result (λ t k. LearnsPublish c.args.version k c.publish.result (known_of c.publish.new.world c.publish.new.notes)) c.args.others.now c.args.number _ _ _ _ _ c.requires.known c.meddle.ensures.leads c.in_ok-meddle.ensures.made c.publish.ensures

pub returns-in_err-meddle : goal.returns-in_err-meddle
returns-in_err-meddle g c = refused_among (PublishTurn c.args.version c.args.bytes.now) c.from_residual.result (λ t k r m. LearnsPublish c.args.version k r m) c.args.others.now c.args.number _ _ _ c.from_residual.ensures.1 (λ t k. refl) c.requires.known c.meddle.ensures.leads c.in_err-meddle.ensures.made
