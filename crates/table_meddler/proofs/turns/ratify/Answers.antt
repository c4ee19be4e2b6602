use Rattle.std.proofs.Common.{refl, sym, subst}
use Rattle.std.specs.Prelude.{ℤ}
use mir.Syntax.{w64}
use Rattle.std.proofs.lemmas.Int.{to_z-of_z}
use Rattle.table_model.specs.Conditions.{MayRatify}
use Rattle.table_model.specs.Learning.{LearnsRatify}
use Rattle.table_model.specs.Turns.{RatifyTurn}
use Rattle.table_model.specs.Noted.{known_of}
use Rattle.table_meddler.proofs.Afterwards.{known_on, done_among, refused_among, may_ratify_on}
use Rattle.table_meddler.proofs.turns.ratify.Goals as goal

pub ratify-requires-clause-known : goal.ratify-requires-clause-known
ratify-requires-clause-known g c = known_on _ _ _ c.requires.known c.meddle.ensures.leads

pub ratify-requires-clause-may : goal.ratify-requires-clause-may
ratify-requires-clause-may g c =
    let P : ℤ → Type 0 = λ z. MayRatify c.meddle.new.world.tells (known_of c.meddle.new.world c.args.notes.now) c.args.version c.args.id z in
    subst P (sym (to_z-of_z w64 c.args.time c.ranges.time)) (may_ratify_on _ _ _ c.args.version c.args.id c.args.time c.requires.known c.meddle.ensures.leads c.requires.may)

pub returns : goal.returns
returns g c = done_among (RatifyTurn c.args.version c.args.id c.args.time) c.ratify.result (λ t k. LearnsRatify t c.args.version c.args.id k c.ratify.result (known_of c.ratify.new.world c.ratify.new.notes)) c.args.others.now c.args.number _ _ _ _ _ c.requires.known c.meddle.ensures.leads c.in_ok-meddle.ensures.made (rw (to_z-of_z w64 c.args.time c.ranges.time) at c.ratify.ensures)

pub returns-in_err-meddle : goal.returns-in_err-meddle
returns-in_err-meddle g c = refused_among (RatifyTurn c.args.version c.args.id c.args.time) c.from_residual.result (λ t k r m. LearnsRatify t c.args.version c.args.id k r m) c.args.others.now c.args.number _ _ _ c.from_residual.ensures.1 (λ t k. refl) c.requires.known c.meddle.ensures.leads c.in_err-meddle.ensures.made
