use Rattle.std.proofs.Common.{refl}
use Rattle.table_model.specs.Conditions.{MayReport}
use Rattle.table_model.specs.Learning.{LearnsReport}
use Rattle.table_model.specs.Turns.{ReportTurn}
use Rattle.table_model.specs.Noted.{known_of}
use Rattle.table_meddler.proofs.Afterwards.{known_on, done_among, refused_among, may_on}
use Rattle.table_meddler.proofs.turns.report.Goals as goal

pub report-requires-clause-known : goal.report-requires-clause-known
report-requires-clause-known g c = known_on _ _ _ c.requires.known c.meddle.ensures.leads

pub report-requires-clause-may : goal.report-requires-clause-may
report-requires-clause-may g c = may_on (λ k. MayReport k c.args.count) _ _ _ c.requires.known c.meddle.ensures.leads c.requires.may

pub returns : goal.returns
returns g c = done_among (ReportTurn c.args.count) c.report.result (λ t k. LearnsReport c.args.count k c.report.result (known_of c.report.new.world c.report.new.notes)) c.args.others.now c.args.number _ _ _ _ _ c.requires.known c.meddle.ensures.leads c.in_ok-meddle.ensures.made c.report.ensures

pub returns-in_err-meddle : goal.returns-in_err-meddle
returns-in_err-meddle g c = refused_among (ReportTurn c.args.count) c.from_residual.result (λ t k r m. LearnsReport c.args.count k r m) c.args.others.now c.args.number _ _ _ c.from_residual.ensures.1 (λ t k. refl) c.requires.known c.meddle.ensures.leads c.in_err-meddle.ensures.made
