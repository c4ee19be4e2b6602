use Rattle.std.proofs.Common.{refl}
use Rattle.table_model.specs.Learning.{LearnsList}
use Rattle.table_model.specs.Turns.{ListTurn}
use Rattle.table_model.specs.Noted.{known_of}
use Rattle.table_meddler.proofs.Afterwards.{known_on, done_among, refused_among}
use Rattle.table_meddler.proofs.turns.list.Goals as goal

pub list-requires : goal.list-requires
list-requires g c = record { known = known_on _ _ _ c.requires.known c.meddle.ensures.leads }

pub returns : goal.returns
returns g c = done_among ListTurn c.list.result (λ t k. LearnsList t k c.list.result (known_of c.list.new.world c.list.new.notes)) c.args.others.now c.args.number _ _ _ _ _ c.requires.known c.meddle.ensures.leads c.in_ok-meddle.ensures.made c.list.ensures

pub returns-in_err-meddle : goal.returns-in_err-meddle
returns-in_err-meddle g c = refused_among ListTurn c.from_residual.result (λ t k r m. LearnsList t k r m) c.args.others.now c.args.number _ _ _ c.from_residual.ensures.1 (λ t k. refl) c.requires.known c.meddle.ensures.leads c.in_err-meddle.ensures.made
