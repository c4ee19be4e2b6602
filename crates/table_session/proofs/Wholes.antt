-- The replies of a session over a log, and those that were written whole.
use Rattle.std.proofs.Common.{◌≡◌, ◌≤◌, ℕ, Bool, List, [], ◌∷◌, ◌++◌, length, sym, ◌∙◌, ap, subst, arith}
use Rattle.std.specs.Prelude.{All, slice_index_or}
use Rattle.std.proofs.lemmas.List.{map-append}
use Rattle.std.proofs.lemmas.List.Elements.{All-tail}
use Rattle.lake_io.specs.declared.answers.End.{End}
use Rattle.lake_io.specs.declared.answers.End.TheVariants as end
use Rattle.table_model.specs.Log.{Commit}
use Rattle.table_model.specs.Knowledge.{Knowledge, StartsWith}
use Rattle.answer_names.specs.Names.{Names, Answer, answer, names_of}
use Rattle.answer_names.specs.Gaining.{known_length, HasOneVersion}
use Rattle.answer_names.specs.Together.{FrontsRise}
use Rattle.answer_names.specs.Whole.{IsWhole}
use Rattle.answer_names.proofs.Chains.{length_longer}
use Rattle.answer_names.proofs.Wholes.{together_within, answers_whole}
use Rattle.table_session.specs.Naming.{named_by}
use Rattle.table_session.specs.Moments.{Moment, answers_of, names_in}
use Rattle.table_session.specs.Told.{Told}
use Rattle.table_session.specs.Over.{ToldOver}
use Rattle.table_session.specs.Sessions.{Wrote, Session}
use Rattle.table_session.proofs.Lasting.{stands_longer}

pub told_over : (tells : Bool) (k m : Knowledge) (xs : List Moment) (log : List Commit) → StartsWith log m.seen → Told tells k xs m → ToldOver tells xs log
told_over tells k m xs log s t = record {
  stands = λ i d less. stands_longer tells (slice_index_or xs i d) m.seen log s (t.stands i d less);
  fronts = together_within tells k m (names_in xs) (length log) (length_longer m.seen log s) t.together;
}

pub names_joined : (xs ys : List Moment) → names_in (xs ++ ys) ≡ names_in xs ++ names_in ys
names_joined xs ys =
    ap names_of (map-append (λ (x : Moment). answer (named_by x.reply) x.after) xs ys)
    ∙ map-append (λ (a : Answer). a.names) (answers_of xs) (answers_of ys)

wrote_few : (wrote : List ℕ) (said unsaid : List Moment) (ended : End) → Wrote wrote said unsaid ended → length unsaid ≤ 1
wrote_few wrote said unsaid end.Done w = omega (arith, ap length w.none)
wrote_few wrote said unsaid end.ReadFault w = omega (arith, ap length w.none)
wrote_few wrote said unsaid end.TooMuch w = omega (arith, ap length w.none)
wrote_few wrote said unsaid end.WriteFault w = omega (arith, ap length w.one)
wrote_few wrote said unsaid end.Memory w = w.one

few_names : (unsaid : List Moment) → length unsaid ≤ 1 → length (names_in unsaid) ≤ 1
few_names [] few = omega arith
few_names (x ∷ []) few = omega arith
few_names (x ∷ y ∷ xs) few = absurd (omega (arith, few))

last_one : (xs ys : List Names) → All HasOneVersion (xs ++ ys) → All HasOneVersion ys
last_one [] ys h = h
last_one (x ∷ xs) ys h = last_one xs ys (All-tail HasOneVersion x (xs ++ ys) h)

pub session_whole : (tells : Bool) (read wrote : List ℕ) (k m : Knowledge) (ended : End) → (s : Session tells read wrote k m ended) → IsWhole (names_in s.moments) (names_in s.said) (names_in s.unsaid)
session_whole tells read wrote k m ended s =
    let joined : names_in s.moments ≡ names_in s.said ++ names_in s.unsaid = ap names_in s.all ∙ names_joined s.said s.unsaid in
    let rise : FrontsRise (known_length k) (names_in s.said ++ names_in s.unsaid) = subst (FrontsRise (known_length k)) joined s.told.together.rise in
    let one : All HasOneVersion (names_in s.said ++ names_in s.unsaid) = subst (All HasOneVersion) joined s.told.together.one in
    let few = few_names s.unsaid (wrote_few wrote s.said s.unsaid ended s.wrote_is) in
    let P : List Names → Type 0 = λ xs. IsWhole xs (names_in s.said) (names_in s.unsaid) in
    subst P (sym joined) (answers_whole (known_length k) (names_in s.said) (names_in s.unsaid) rise (last_one (names_in s.said) (names_in s.unsaid) one) few)
