use Rattle.std.proofs.Common.{refl}
use Rattle.table_model.specs.Learning.{LearnsLookup}
use Rattle.table_model.specs.Turns.{LookupTurn}
use Rattle.table_model.specs.Noted.{known_of}
use Rattle.table_meddler.proofs.Afterwards.{known_on, done_among, refused_among}
use Rattle.table_meddler.proofs.turns.lookup.Goals as goal

pub lookup-requires : goal.lookup-requires
lookup-requires g c = record { known = known_on _ _ _ c.requires.known c.meddle.ensures.leads }

pub returns : goal.returns
returns g c = done_among (LookupTurn c.args.version) c.lookup.result (λ t k. LearnsLookup t c.args.version k c.lookup.result (known_of c.lookup.new.world c.lookup.new.notes)) c.args.others.now c.args.number _ _ _ _ _ c.requires.known c.meddle.ensures.leads c.in_ok-meddle.ensures.made c.lookup.ensures

pub returns-in_err-meddle : goal.returns-in_err-meddle
returns-in_err-meddle g c = refused_among (LookupTurn c.args.version) c.from_residual.result (λ t k r m. LearnsLookup t c.args.version k r m) c.args.others.now c.args.number _ _ _ c.from_residual.ensures.1 (λ t k. refl) c.requires.known c.meddle.ensures.leads c.in_err-meddle.ensures.made
