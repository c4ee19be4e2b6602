-- What stays for one caller of a world in which others act.
use Rattle.std.proofs.Common.{◌≡◌, ◌<◌, ◌+◌, ◌-◌, ◌^◌, inl, inr, ℕ, ℤ, List, Bool, min, refl, sym, subst, arith}
use Rattle.std.specs.Result.{IsErrAnd}
use Rattle.std.specs.Prelude.{Result, Ok, Err}
use Rattle.table_model.specs.declared.answers.StepFault.{StepFault}
use Rattle.table_model.specs.declared.answers.StepFault.TheVariants.{Memory}
use Rattle.table_model.specs.World.{WorldData}
use Rattle.table_model.specs.Consistency.{IsConsistent}
use Rattle.table_model.specs.Knowledge.{Knowledge, IsGrown}
use Rattle.table_model.specs.Holding.{HoldsIn, IsLater}
use Rattle.table_model.specs.Conditions.{MayRatify, MayPublish}
use Rattle.table_model.proofs.Growing.{le_trans, grows_refl}
use Rattle.table_model.specs.After.{IsAfter}
use Rattle.table_model.proofs.Lasting.{after_trans, after_others}
use Rattle.table_model.proofs.Worlds.{holds_later}
use Rattle.table_model.proofs.Knowing.{valid_of}
use Rattle.table_model.specs.declared.notes.Notes.{Notes}
use Rattle.table_model.specs.Noted.{noted, known_of}
use Rattle.table_world.specs.Done.{IsKnownIn, HasDone}
use Rattle.table_world.proofs.TurnNotes.{known_moved}
use Rattle.table_meddler.specs.declared.foreign.Foreign.{Foreign}
use Rattle.table_meddler.specs.Others.{AreMade, AreCutShort}
use Rattle.table_meddler.specs.Among.{Among, LeadsTo, IsMet, TakesTurn, HasDoneAmong}

-- what is known is the same after turns of others
pub known_same : (w x : WorldData) (n : Notes) → IsKnownIn w n → IsLater w x → known_of x n ≡ known_of w n
known_same w x n k later = known_moved (noted n) w x n.seen later k.seen

-- and it is true still
pub known_on : (w x : WorldData) (n : Notes) → IsKnownIn w n → LeadsTo w x → IsKnownIn x n
known_on w x n k l =
    let P : Knowledge → Type 0 = λ m. HoldsIn x m in
    record {
      consistent = l.consistent;
      holds = subst P (sym (known_same w x n k l.later)) (holds_later w x (known_of w n) k.holds l.later);
      seen = le_trans _ _ _ k.seen l.later.records;
    }

-- a turn of the caller after turns of others
pub done_among : {A : Type 0} (turn : WorldData → Result A StepFault → WorldData → Type 0) (r : Result A StepFault) (L : Bool → Knowledge → Type 0) (others : List Foreign) (number : ℕ)
    (w y x : WorldData) (n m : Notes) → IsKnownIn w n → LeadsTo w y → AreMade others number w y → HasDone (turn y r x) (L y.tells (known_of y n)) y n x m
    → HasDoneAmong (IsMet turn r others number w x) (L w.tells (known_of w n)) w n x m
done_among turn r L others number w y x n m k l made h =
    let same : known_of y n ≡ known_of w n = known_same w y n k l.later in
    let P : Knowledge → Type 0 = λ j. L y.tells j in
    let Q : Bool → Type 0 = λ t. L t (known_of w n) in
    let G : Knowledge → Type 0 = λ j. IsGrown j (known_of x m) in
    let F : Knowledge → Type 0 = λ j. IsAfter y j x (known_of x m) in
    record {
      turned = inl (record { between = y; made = made; turned = h.turned });
      learnt = subst Q l.later.tells (subst P same h.learnt);
      grows = subst G same h.grows;
      valid = h.valid;
      after = after_trans w y x (known_of w n) (known_of w n) (known_of x m) (after_others w y (known_of w n) l.later l.consistent) (subst F same h.after.after);
      known = h.known;
    }

refused_memory : {A : Type 0} (r : Result A StepFault) → IsErrAnd r (λ e. e ≡ Memory) → r ≡ Err Memory
refused_memory (Ok a) h = absurd h
refused_memory (Err e) h = cc

-- and one that was refused, since memory was short at a turn of another
pub refused_among : {A : Type 0} (turn : WorldData → Result A StepFault → WorldData → Type 0) (r : Result A StepFault)
    (L : Bool → Knowledge → Result A StepFault → Knowledge → Type 0) (others : List Foreign) (number : ℕ) (w x : WorldData) (n : Notes)
    → IsErrAnd r (λ e. e ≡ Memory) → ((t : Bool) (k : Knowledge) → L t k (Err Memory) k) → IsKnownIn w n → LeadsTo w x → AreCutShort others number w x
    → HasDoneAmong (IsMet turn r others number w x) (L w.tells (known_of w n) r (known_of x n)) w n x n
refused_among {A = A} turn r L others number w x n because nothing k l cut =
    let e : r ≡ Err Memory = refused_memory r because in
    let same : known_of w n ≡ known_of x n = sym (known_same w x n k l.later) in
    let on : IsKnownIn x n = known_on w x n k l in
    let P : Knowledge → Type 0 = λ j. L w.tells (known_of w n) (Err Memory) j in
    let Q : Result A StepFault → Type 0 = λ a. L w.tells (known_of w n) a (known_of x n) in
    let G : Knowledge → Type 0 = λ j. IsGrown (known_of w n) j in
    let F : Knowledge → Type 0 = λ j. IsAfter w (known_of w n) x j in
    record {
      turned = inr (e, cut);
      learnt = subst Q (sym e) (subst P same (nothing w.tells (known_of w n)));
      grows = subst G same (grows_refl (known_of w n));
      valid = valid_of x (known_of x n) on.consistent on.holds;
      after = subst F same (after_others w x (known_of w n) l.later l.consistent);
      known = on;
    }

-- what the caller may do it may do after turns of others
pub may_ratify_on : (w x : WorldData) (n : Notes) (version id : ℕ) (time : ℤ) → IsKnownIn w n → LeadsTo w x
    → MayRatify w.tells (known_of w n) version id time → MayRatify x.tells (known_of x n) version id time
may_ratify_on w x n version id time k l m =
    let P : Knowledge → Type 0 = λ j. MayRatify w.tells j version id time in
    let Q : Bool → Type 0 = λ t. MayRatify t (known_of x n) version id time in
    subst Q (sym l.later.tells) (subst P (sym (known_same w x n k l.later)) m)

pub may_publish_on : (w x : WorldData) (n : Notes) (version : ℕ) (text : List ℕ) → IsKnownIn w n → LeadsTo w x
    → MayPublish w.tells (known_of w n) version text → MayPublish x.tells (known_of x n) version text
may_publish_on w x n version text k l m =
    let P : Knowledge → Type 0 = λ j. MayPublish w.tells j version text in
    let Q : Bool → Type 0 = λ t. MayPublish t (known_of x n) version text in
    subst Q (sym l.later.tells) (subst P (sym (known_same w x n k l.later)) m)

-- a condition on what is known alone
pub may_on : (P : Knowledge → Type 0) (w x : WorldData) (n : Notes) → IsKnownIn w n → LeadsTo w x → P (known_of w n) → P (known_of x n)
may_on P w x n k l m = subst P (sym (known_same w x n k l.later)) m

-- one turn of the caller, as it is seen
pub takes_turn : {A : Type 0} (turn : WorldData → Result A StepFault → WorldData → Type 0) (r : Result A StepFault) (a : Among) (w x : WorldData) (k m : Knowledge)
    (others given : List Foreign) (before number : ℕ) → (let b : Among = record { world = w; known = k; others = others; turns = before } in b) ≡ a → given ≡ others
    → number ≡ min (before + 1) (2 ^ 64 - 1) → IsMet turn r given number w x → IsConsistent x → HoldsIn x m → TakesTurn turn r a (record { world = x; known = m; others = others; turns = number })
takes_turn turn r a w x k m others given before number view same counted met consistent holds =
    let P : Among → Type 0 = λ b. TakesTurn turn r b (record { world = x; known = m; others = others; turns = number }) in
    let Q : List Foreign → Type 0 = λ os. IsMet turn r os number w x in
    subst P view (record { others = refl; counted = counted; met = subst Q same met; consistent = consistent; holds = holds })
