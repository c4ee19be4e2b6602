-- From the moments of a session, each right, to what they say together.
use Rattle.std.proofs.Common.{Bool, List, [], ◌∷◌}
use Rattle.std.specs.Prelude.{All}
use Rattle.std.proofs.lemmas.List.Elements.{All-nil, All-cons}
use Rattle.table_model.specs.Log.{Commit}
use Rattle.table_model.specs.Knowledge.{Knowledge, IsGrown, StartsWith}
use Rattle.table_model.proofs.Growing.{starts_refl, starts_trans}
use Rattle.answer_names.specs.Chain.{Chain}
use Rattle.answer_names.proofs.Chains.{chain_grows, chain_together}
use Rattle.table_session.specs.Moments.{Moment, answers_of}
use Rattle.table_session.specs.Standing.{Stands}
use Rattle.table_session.specs.Running.{Run}
use Rattle.table_session.specs.Told.{Told}
use Rattle.table_session.proofs.Lasting.{own_stands, stands_longer}

pub run_chain : (tells : Bool) (k m : Knowledge) (xs : List Moment) → Run tells k xs m → Chain tells k (answers_of xs) m
run_chain tells k m [] r = r
run_chain tells k m (x ∷ xs) r = (record { grows = r.0.grows; gains = r.0.gains }, run_chain tells x.after m xs r.1)

pub run_grows : (tells : Bool) (k m : Knowledge) (xs : List Moment) → Run tells k xs m → IsGrown k m
run_grows tells k m xs r = chain_grows tells k m (answers_of xs) (run_chain tells k m xs r)

run_stands : (tells : Bool) (k m : Knowledge) (xs : List Moment) (log : List Commit) → StartsWith log m.seen → Run tells k xs m → All (λ x. Stands tells x log) xs
run_stands tells k m [] log s r = All-nil (λ x. Stands tells x log)
run_stands tells k m (x ∷ xs) log s r =
    All-cons (λ x. Stands tells x log) x xs
    (stands_longer tells x x.after.seen log (starts_trans (run_grows tells x.after m xs r.1).seen s) (own_stands tells k x r.0.own))
    (run_stands tells x.after m xs log s r.1)

pub run_told : (tells : Bool) (k m : Knowledge) (xs : List Moment) → Run tells k xs m → Told tells k xs m
run_told tells k m xs r = record {
  stands = run_stands tells k m xs m.seen (starts_refl m.seen) r;
  together = chain_together tells k m (answers_of xs) (run_chain tells k m xs r);
}
