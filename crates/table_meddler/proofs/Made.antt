-- The turns of other callers: who may make them, and the later world that each leads to.
use Rattle.std.proofs.Common.{◌≡◌, ◌≢◌, ◌<◌, ◌≤◌, ◌^◌, inl, inr, ℕ, Bool, true, false, List, [], ◌∷◌, length, take, refl, sym, ◌∙◌, ap, subst, arith, IsTrue}
use Rattle.std.specs.Result.{IsErr}
use Rattle.std.specs.Prelude.{Result, Ok, Err, MatchResult, ℤ, Vec, All, ◌==◌, ◌+◌, drop, get_or}
use Rattle.std.specs.declared.alloc.Global.{Global}
use Rattle.std.specs.declared.alloc.AllocError.{AllocError}
use Rattle.std.proofs.lemmas.List.{take_all, drop_more, drop_all}
use Rattle.std.proofs.lemmas.List.Elements.{All-cons, All-nil}
use Rattle.std.proofs.lemmas.Bool.{eq-eqb}
use Rattle.std.proofs.lemmas.Bool.Decides.{eqb_tells}
use Rattle.log_names.specs.declared.LogName.{LogName}
use Rattle.commit_catalog.specs.declared.Commits.{Commits}
use Rattle.commit_catalog.specs.declared.Ratify.{Ratify}
use Rattle.object_store.specs.declared.store.Bytes.{Bytes}
use Rattle.object_store.specs.declared.store.Put.{Put}
use Rattle.object_store.specs.declared.store.Gone.{Gone}
use Rattle.table_model.specs.declared.answers.Looked.{Looked}
use Rattle.table_model.specs.declared.answers.Staged.{Staged}
use Rattle.table_model.specs.declared.answers.StepFault.{StepFault}
use Rattle.table_model.specs.declared.answers.StepFault.TheVariants.{Memory}
use Rattle.table_model.specs.Log.{Commit, IsNextCommit}
use Rattle.table_model.specs.World.{WorldData, log_of}
use Rattle.table_model.specs.Consistency.{IsConsistent}
use Rattle.table_model.specs.Knowledge.{Knowledge, Triple, newcomer}
use Rattle.table_model.specs.Holding.{HoldsIn, IsKeptIn}
use Rattle.table_model.specs.Conditions.{triple}
use Rattle.table_model.specs.Turns.{CommitsTurn, LookupTurn, ListTurn, GetTurn, StageTurn, RatifyTurn, PublishTurn, ReportTurn, ClearTurn}
use Rattle.table_model.proofs.Growing.{starts_refl, le_refl}
use Rattle.table_model.proofs.Worlds.{holds-newcomer}
use Rattle.table_model.proofs.Knowing.{length-log_of}
use Rattle.table_model.proofs.Asking.{outcome-commits, outcome-lookup}
use Rattle.table_model.proofs.Reading.{outcome-list, outcome-get}
use Rattle.table_model.proofs.Ratifying.{outcome-ratify}
use Rattle.table_model.proofs.Calls.{outcome-stage, outcome-publish, outcome-report, outcome-clear}
use Rattle.table_world.proofs.Kept.{Ratifiable, Publishable, Reportable, Clearable}
use Rattle.table_meddler.specs.Others.{ArePublished, IsNextIn, IsCommitOf, IsAnswered, IsRead, IsMade, Meets, AreMade, AreCutShort, IsDone}
use Rattle.table_meddler.specs.Among.{LeadsTo}
use Rattle.table_meddler.proofs.ReadWorlds.{read_same, read_trans, read_tells, read_count}
use Rattle.table_meddler.specs.declared.foreign.Foreign.{Foreign}
use Rattle.table_meddler.specs.declared.foreign.Turn.{Turn}
use Rattle.table_meddler.specs.declared.foreign.Fate.{Fate}
use Rattle.table_meddler.specs.declared.foreign.Fate.TheVariants.{Made}

-- The knowledge of a caller who has seen the whole log.

abbrev all_known : WorldData → ℕ → ℕ → List Triple → Knowledge
all_known w published reported kept = record newcomer { seen = log_of w; published = published; reported = reported; kept = kept }

all_holds : (w : WorldData) (published reported : ℕ) (kept : List Triple) → reported ≤ w.reported → reported ≤ published
    → (IsTrue w.tells → ArePublished w published) → (IsTrue w.tells → All (IsKeptIn w) kept) → HoldsIn w (all_known w published reported kept)
all_holds w published reported kept told within there staged = record {
  terms = tt;
  seen = starts_refl _;
  mine = λ n d less. absurd (omega arith);
  told = omega arith;
  reported = told;
  within = within;
  published = there;
  kept = staged;
  marks = λ t n d less. absurd (omega arith);
  marked = λ t n d less. absurd (omega arith);
  faults = omega arith;
}

one_kept : (w : WorldData) (t : Triple) → IsKeptIn w t → All (IsKeptIn w) (t ∷ [])
one_kept w t h = All-cons (IsKeptIn w) t [] h (All-nil (IsKeptIn w))

log_length : (w : WorldData) → length w.records ≤ length (log_of w)
log_length w = let e = length-log_of w in omega (arith, e)

whole_take : (w : WorldData) (version : ℕ) → version ≡ length w.records → take version (log_of w) ≡ log_of w
whole_take w version e = let f = length-log_of w in take_all version (log_of w) (omega (arith, e, f))

told_ratify : (w : WorldData) (version id : ℕ) (time : ℤ) (t : Bool) → w.tells ≡ t → version ≡ length w.records → (IsTrue t → IsNextIn w version id time)
    → Ratifiable version id time w
told_ratify w version id time false e next h = (
  all_known w 0 0 (triple version id [] ∷ []),
  all_holds w 0 0 _ (omega arith) (omega arith) (λ t. absurd (let f : false ≡ true = sym e ∙ t in cc)) (λ t. absurd (let f : false ≡ true = sym e ∙ t in cc)),
  record {
    bytes = [];
    kept = (0, omega arith, refl);
    below = let f = length-log_of w in omega (arith, next, f);
    next = λ t. absurd (let f : false ≡ true = sym e ∙ t in cc);
    timed = λ t. absurd (let f : false ≡ true = sym e ∙ t in cc);
  },
)
told_ratify w version id time true e next h =
    let n = h refl in
    let P : List Commit → Type 0 = λ log. IsNextCommit log n.bytes in (
      all_known w 0 0 (triple version id n.bytes ∷ []),
      all_holds w 0 0 _ (omega arith) (omega arith) (λ t v less. absurd (omega arith)) (λ t. one_kept w (triple version id n.bytes) (inr n.staged)),
      record {
        bytes = n.bytes;
        kept = (0, omega arith, refl);
        below = let f = length-log_of w in omega (arith, next, f);
        next = λ t. subst P (sym (whole_take w version next)) n.next;
        timed = λ t. n.timed;
      },
    )

pub ratifiable : (w : WorldData) (version id : ℕ) (time : ℤ) → version ≡ length w.records → (IsTrue w.tells → IsNextIn w version id time)
    → Ratifiable version id time w
ratifiable w version id time next h = told_ratify w version id time w.tells refl next h

pub publishable : (w : WorldData) (version : ℕ) (text : List ℕ) → version < length w.records → (IsTrue w.tells → IsCommitOf w version text)
    → Publishable version text w
publishable w version text less h = (
  all_known w version 0 [],
  all_holds w version 0 [] (omega arith) (omega arith) (λ t. (h t).below) (λ t n d low. absurd (omega arith)),
  record { known = let e = length-log_of w in omega (arith, less, e); below = le_refl _; text_is = λ t. (h t).text_is },
)

pub reportable : (w : WorldData) (count : ℕ) → count ≤ length w.records → (IsTrue w.tells → ArePublished w count) → Reportable count w
reportable w count le h = (
  all_known w count 0 [],
  all_holds w count 0 [] (omega arith) (omega arith) h (λ t n d low. absurd (omega arith)),
  record { known = let e = length-log_of w in omega (arith, le, e); published = le_refl _ },
)

pub clearable : (w : WorldData) (version : ℕ) → IsConsistent w → version < w.reported → Clearable version w
clearable w version c less = (
  all_known w w.reported w.reported [],
  all_holds w w.reported w.reported [] (le_refl _) (le_refl _) (λ t. (c.filed t).reported) (λ t n d low. absurd (omega arith)),
  less,
)

-- After files were read the conditions are the same.

pub next_on : (w x : WorldData) (version id : ℕ) (time : ℤ) → IsRead w x → IsNextIn w version id time → IsNextIn x version id time
next_on w x version id time r h =
    let P : WorldData → Type 0 = λ y. IsNextIn y version id time in
    subst P (sym r.same) (record { next_version = h.next_version; bytes = h.bytes; staged = h.staged; next = h.next; timed = h.timed })

pub commit_on : (w x : WorldData) (version : ℕ) (text : List ℕ) → IsRead w x → IsCommitOf w version text → IsCommitOf x version text
commit_on w x version text r h =
    let P : WorldData → Type 0 = λ y. IsCommitOf y version text in
    subst P (sym r.same) (record { ratified = h.ratified; below = h.below; text_is = h.text_is })

pub published_on : (w x : WorldData) (count : ℕ) → IsRead w x → ArePublished w count → ArePublished x count
published_on w x count r h = let P : WorldData → Type 0 = λ y. ArePublished y count in subst P (sym r.same) h

pub clear_on : (w x : WorldData) (version : ℕ) → IsRead w x → version < w.reported → version < x.reported
clear_on w x version r h = let P : WorldData → Type 0 = λ y. version < y.reported in subst P (sym r.same) h

-- and whoever could act before can act

tells_back : (w x : WorldData) → IsRead w x → IsTrue x.tells → IsTrue w.tells
tells_back w x r t = sym (read_tells w x r) ∙ t

pub ratify_ready : (w x : WorldData) (version id : ℕ) (time : ℤ) → IsRead w x → version ≡ length w.records → (IsTrue w.tells → IsNextIn w version id time)
    → Ratifiable version id time x
ratify_ready w x version id time r e h = ratifiable x version id time (e ∙ sym (read_count w x r)) (λ t. next_on w x version id time r (h (tells_back w x r t)))

pub publish_ready : (w x : WorldData) (version : ℕ) (text : List ℕ) → IsRead w x → version < length w.records → (IsTrue w.tells → IsCommitOf w version text)
    → Publishable version text x
publish_ready w x version text r less h =
    publishable x version text (let e = read_count w x r in omega (arith, e, less)) (λ t. commit_on w x version text r (h (tells_back w x r t)))

pub report_ready : (w x : WorldData) (count : ℕ) → IsRead w x → count ≤ length w.records → (IsTrue w.tells → ArePublished w count) → Reportable count x
report_ready w x count r le h =
    reportable x count (let e = read_count w x r in omega (arith, e, le)) (λ t. published_on w x count r (h (tells_back w x r t)))

pub clear_ready : (w x : WorldData) (version : ℕ) → IsRead w x → version < w.reported → Clearable version x
clear_ready w x version r less = clearable x version r.consistent (clear_on w x version r less)

-- Each turn leads to a later world.

pub leads_commits : (w x : WorldData) (r : Result Commits StepFault) → IsConsistent w → CommitsTurn w r x → IsConsistent x → LeadsTo w x
leads_commits w x r c t d = record { later = (outcome-commits w x newcomer r c (holds-newcomer w) t).turn.later; consistent = d }

pub leads_lookup : (version : ℕ) (w x : WorldData) (r : Result Looked StepFault) → IsConsistent w → LookupTurn version w r x → IsConsistent x → LeadsTo w x
leads_lookup version w x r c t d = record { later = (outcome-lookup version w x newcomer r c (holds-newcomer w) t).turn.later; consistent = d }

pub leads_list : (w x : WorldData) (r : Result (Vec LogName Global) StepFault) → IsConsistent w → ListTurn w r x → IsConsistent x → LeadsTo w x
leads_list w x r c t d = record { later = (outcome-list w x newcomer r c (holds-newcomer w) t).turn.later; consistent = d }

pub leads_get : (n : LogName) (w x : WorldData) (r : Result Bytes StepFault) → IsConsistent w → GetTurn n w r x → IsConsistent x → LeadsTo w x
leads_get n w x r c t d = record { later = (outcome-get n w x newcomer r c (holds-newcomer w) t).turn.later; consistent = d }

pub leads_stage : (version id : ℕ) (text : List ℕ) (w x : WorldData) (r : Result Staged StepFault) → IsConsistent w → version < 2 ^ 64 → id < 2 ^ 128
    → StageTurn version id text w r x → IsConsistent x → LeadsTo w x
leads_stage version id text w x r c small tiny t d =
    record { later = (outcome-stage version id text w x newcomer r c (holds-newcomer w) small tiny t).turn.later; consistent = d }

pub leads_ratify : (version id : ℕ) (time : ℤ) (w x : WorldData) (r : Result Ratify StepFault) → IsConsistent w → Ratifiable version id time w
    → RatifyTurn version id time w r x → IsConsistent x → LeadsTo w x
leads_ratify version id time w x r c m t d = record { later = (outcome-ratify version id time w x m.0 r c m.1 m.2 t).turn.later; consistent = d }

pub leads_publish : (version : ℕ) (text : List ℕ) (w x : WorldData) (r : Result Put StepFault) → IsConsistent w → version < 2 ^ 64 → Publishable version text w
    → PublishTurn version text w r x → IsConsistent x → LeadsTo w x
leads_publish version text w x r c small m t d = record { later = (outcome-publish version text w x m.0 r c m.1 small m.2 t).turn.later; consistent = d }

pub leads_report : (count : ℕ) (w x : WorldData) (r : Result ℕ StepFault) → IsConsistent w → Reportable count w → ReportTurn count w r x → IsConsistent x → LeadsTo w x
leads_report count w x r c m t d = record { later = (outcome-report count w x m.0 r c m.1 m.2 t).turn.later; consistent = d }

pub leads_clear : (version id : ℕ) (w x : WorldData) (r : Result Gone StepFault) → IsConsistent w → version < 2 ^ 64 → id < 2 ^ 128 → Clearable version w
    → ClearTurn version id w r x → IsConsistent x → LeadsTo w x
leads_clear version id w x r c small tiny m t d = record { later = (outcome-clear version id w x m.0 r c m.1 small tiny m.2 t).turn.later; consistent = d }

-- What becomes of a turn, by its answer: want of memory leaves the world as it was read.

pub refused_read : {A : Type 0} (T : Result A StepFault → Type 0) (answer : Result A StepFault) (w y x : WorldData) → (T (Err Memory) → x ≡ y) → T answer
    → IsRead w y → IsConsistent x → answer ≡ Err Memory → IsRead w x
refused_read T answer w y x same t r c e = read_trans w y x r (read_same y x (same (subst T e t)) c)

pub meets_made : {A : Type 0} (t : Turn) (r : Result Fate AllocError) (answer : Result A StepFault) (w x : WorldData)
    → MatchResult r (λ f. (f ≡ Made) × IsAnswered answer) (λ _. answer ≡ Err Memory) → (IsAnswered answer → IsMade t w x) → (answer ≡ Err Memory → IsRead w x)
    → MatchResult r (λ f. Meets t f w x) (λ _. IsRead w x)
meets_made t (Ok f) answer w x h made short = let P : Fate → Type 0 = λ g. Meets t g w x in subst P (sym h.0) (made h.1)
meets_made t (Err e) answer w x h made short = short h

pub refused_with : {A E : Type 0} (r : Result A E) (P : A → Type 0) (Q : Type 0) → IsErr r → Q → MatchResult r P (λ _. Q)
refused_with (Ok a) P Q h q = cc
refused_with (Err e) P Q h q = q

-- one more turn of a list
pub made_more : (turns : List Foreign) (index number : ℕ) (f : Foreign) (w y x : WorldData) → index < length turns → f ≡ get_or turns index f
    → IsDone (f.before == number) f.turn w y → AreMade (drop (index + 1) turns) number y x → AreMade (drop index turns) number w x
unfolding AreMade
made_more turns index number f w y x less is done rest =
    let P : List Foreign → Type 0 = λ fs. AreMade fs number w x in
    let e : drop index turns ≡ f ∷ drop (index + 1) turns = drop_more turns index f less ∙ ap (λ (g : Foreign). g ∷ drop (index + 1) turns) (sym is) in
    subst P (sym e) (y, done, rest)

pub cut_more : (turns : List Foreign) (index number : ℕ) (f : Foreign) (w y x : WorldData) → index < length turns → f ≡ get_or turns index f
    → IsDone (f.before == number) f.turn w y → AreCutShort (drop (index + 1) turns) number y x → AreCutShort (drop index turns) number w x
unfolding AreCutShort
cut_more turns index number f w y x less is done rest =
    let P : List Foreign → Type 0 = λ fs. AreCutShort fs number w x in
    let e : drop index turns ≡ f ∷ drop (index + 1) turns = drop_more turns index f less ∙ ap (λ (g : Foreign). g ∷ drop (index + 1) turns) (sym is) in
    subst P (sym e) (inr (y, done, rest))

pub cut_here : (turns : List Foreign) (index number : ℕ) (f : Foreign) (w x : WorldData) → index < length turns → f ≡ get_or turns index f
    → (f.before ≡ number) × IsRead w x → AreCutShort (drop index turns) number w x
unfolding AreCutShort
cut_here turns index number f w x less is here =
    let P : List Foreign → Type 0 = λ fs. AreCutShort fs number w x in
    let e : drop index turns ≡ f ∷ drop (index + 1) turns = drop_more turns index f less ∙ ap (λ (g : Foreign). g ∷ drop (index + 1) turns) (sym is) in
    subst P (sym e) (inl here)

pub made_end : (turns : List Foreign) (index number : ℕ) (w : WorldData) → length turns ≤ index → AreMade (drop index turns) number w w
unfolding AreMade
made_end turns index number w all = let P : List Foreign → Type 0 = λ fs. AreMade fs number w w in subst P (sym (drop_all index turns all)) refl

pub done_at : (a n : ℕ) (t : Turn) (fate : Fate) (w x : WorldData) → a ≡ n → Meets t fate w x → IsDone (a == n) t w x
done_at a n t fate w x e m = let P : Bool → Type 0 = λ b. IsDone b t w x in subst P (sym (eq-eqb a n e)) (fate, m)

pub not_at : (a n : ℕ) (t : Turn) (w : WorldData) → a ≢ n → IsDone (a == n) t w w
not_at a n t w differ =
    let P : Bool → Type 0 = λ b. IsDone b t w w in
    elim (eqb_tells a n) [ inl same ↦ absurd (differ same.1) | inr other ↦ subst P (sym other.0) refl ]
