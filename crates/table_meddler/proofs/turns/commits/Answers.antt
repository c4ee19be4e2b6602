use Rattle.std.proofs.Common.{refl}
use Rattle.table_model.specs.Learning.{LearnsCommits}
use Rattle.table_model.specs.Turns.{CommitsTurn}
use Rattle.table_model.specs.Noted.{known_of}
use Rattle.table_meddler.proofs.Afterwards.{known_on, done_among, refused_among}
use Rattle.table_meddler.proofs.turns.commits.Goals as goal

pub commits-requires : goal.commits-requires
commits-requires g c = record { known = known_on _ _ _ c.requires.known c.meddle.ensures.leads }

pub returns : goal.returns
returns g c = done_among CommitsTurn c.commits.result (λ t k. LearnsCommits t k c.commits.result (known_of c.commits.new.world c.commits.new.notes)) c.args.others.now c.args.number _ _ _ _ _ c.requires.known c.meddle.ensures.leads c.in_ok-meddle.ensures.made c.commits.ensures

pub returns-in_err-meddle : goal.returns-in_err-meddle
returns-in_err-meddle g c = refused_among CommitsTurn c.from_residual.result (λ t k r m. LearnsCommits t k r m) c.args.others.now c.args.number _ _ _ c.from_residual.ensures.1 (λ t k. refl) c.requires.known c.meddle.ensures.leads c.in_err-meddle.ensures.made
