-- The turn that asks the catalogue.
use Rattle.std.proofs.Common.{◌≡◌, ◌≢◌, ◌<◌, ◌≤◌, ◌+◌, ◌-◌, ◌^◌, ◌&&◌, ◌==◌, ◌⊎◌, inl, inr, ℕ, zero, suc, Bool, true, false, cond, List, [], ◌∷◌, ◌++◌, length, take, drop, refl, sym, ◌∙◌, ap, subst, arith, rules, Option, Some, None, IsTrue, length-append, append-nil, max, unwrap_or}
use Rattle.std.specs.Prelude.{All, Contains, IfSome, is_some, filter_map, Result, Ok, Err, ℤ, slice_index_or, slice_get, option_map, Vec, nat_lt}
use Rattle.std.specs.declared.alloc.Global.{Global}
use Rattle.std.proofs.lemmas.List.{get_or-drop, length-drop}
use Rattle.std.proofs.lemmas.List.Elements.{All-weaker, All-push, All-append, All-contains}
use Rattle.std.proofs.lemmas.Option.{slice_get_past, slice_get-get_or}
use Rattle.std.proofs.lemmas.Bool.{lt-ltb, eq-eqb, ltb-true, eqb-true}
use Rattle.log_names.specs.declared.LogName.{LogName}
use Rattle.log_names.specs.declared.LogName.TheVariants as name
use Rattle.log_names.specs.Texts.{name_text, published_text, staged_text, checkpoint_text}
use Rattle.commit_catalog.specs.declared.Commits.{Commits}
use Rattle.commit_catalog.specs.declared.Ratified.{Ratified}
use Rattle.commit_catalog.specs.declared.Entry.{Entry}
use Rattle.commit_catalog.specs.Records.{ratified, ratified_at, ratified_from, staged_of}
use Rattle.commit_catalog.specs.Ratifying.{TellsCommits}
use Rattle.object_store.specs.declared.store.Bytes.{Bytes}
use Rattle.object_store.specs.declared.store.Bytes.TheVariants as bytes
use Rattle.table_model.specs.declared.answers.Spot.{Spot}
use Rattle.table_model.specs.declared.answers.Spot.TheVariants as spot
use Rattle.table_model.specs.declared.answers.Looked.{Looked}
use Rattle.table_model.specs.declared.answers.StepFault.{StepFault}
use Rattle.table_model.specs.declared.answers.StepFault.TheVariants.{Fault, Memory}
use Rattle.table_model.specs.declared.known.Mark.{Mark}
use Rattle.table_model.specs.Log.{Commit, commit_at, commit_time}
use Rattle.table_model.specs.Files.{file_at}
use Rattle.table_model.specs.World.{WorldData, stands, log_of, entry_at, no_entry, file_of_version, either_file}
use Rattle.table_model.specs.Consistency.{IsSized, IsFiled, IsConsistent}
use Rattle.table_model.specs.Turns.{CommitsTurn, LookupTurn, Looks, ListTurn, GetTurn, Lists, Finds, IsFailed, listing, is_log_name}
use Rattle.table_model.specs.Knowledge.{Knowledge, Terms, Triple, StartsWith, IsGrown}
use Rattle.table_model.specs.Holding.{HoldsIn, IsLater, IsKeptIn, terms_of}
use Rattle.table_model.specs.Conditions.{triple}
use Rattle.table_model.specs.Learning.{LearnsCommits, CommitsLearnt, LearnsLookup, LookupLearnt, IsFoundAs, IsRatifiedAs, no_ratified, SeesLog, LearnsList, ListLearnt, ShowsPublished, mark_of, LearnsGet, WholeLearnt, AbsentLearnt, kept_after, IsDue, IsShown, IsMissing, fault_noted}
use Rattle.table_model.specs.Learned.{commits_learned, lookup_learned, list_learned, get_learned, shown_in, published_by, published_where_gone}
use Rattle.table_model.specs.Alone.{LoneOutcome}
use Rattle.table_model.proofs.Growing.{starts_refl, starts_more, starts_trans, le_refl, le_trans, grows_refl}
use Rattle.table_model.proofs.Worlds.{later_refl, later_trans, later_tally, consistent_tally, holds_later, below_or_above, bytes_of, is_there}
use Rattle.table_model.proofs.Knowing.{seen_length, length-log_of, seen_commit, all_seen, log_commit, commit_file}
use Rattle.table_model.proofs.Outcomes.{outcome-quiet, outcome-refused, outcome-failed, below_max, marks_more, mine_more}

-- a store that failed a read
pub outcome-failed_read : (w x : WorldData) (k : Knowledge) (at : Spot) → IsConsistent w → HoldsIn w k → IsFailed w x → LoneOutcome w x k (fault_noted at k)
outcome-failed_read w x k at c h f =
    subst (λ (y : WorldData). LoneOutcome w y k (fault_noted at k)) (sym f.same) (outcome-failed w w x.tally k at c h (later_refl w) refl refl f.rose)

length-ratified_from : (n : ℕ) (es : List Entry) → length (ratified_from n es) ≡ length es
length-ratified_from n [] = refl
length-ratified_from n (e ∷ es) = ap suc (length-ratified_from (n + 1) es)

ratified_from-at : (n : ℕ) (es : List Entry) (i : ℕ) → i < length es
    → slice_index_or (ratified_from n es) i no_ratified ≡ ratified (n + i) (entry_at es i)
ratified_from-at n [] i less = absurd (omega arith)
ratified_from-at n (e ∷ es) zero less = ap (λ v. ratified v e) (let s : n ≡ n + 0 = omega arith in s)
ratified_from-at n (e ∷ es) (suc i) less =
    ratified_from-at (n + 1) es i (omega arith) ∙ ap (λ v. ratified v (entry_at es i)) (let s : n + 1 + i ≡ n + suc i = omega arith in s)

length-staged_of : (w : WorldData) → length (staged_of w.records w.reported) ≡ length w.records - w.reported
length-staged_of w = length-ratified_from w.reported (drop w.reported w.records) ∙ length-drop w.reported w.records

-- what the catalogue has of a version is what the log has of it
staged_right : (w : WorldData) (i : ℕ) → IsConsistent w → i < length (staged_of w.records w.reported)
    → IsRatifiedAs w.tells (slice_index_or (staged_of w.records w.reported) i no_ratified) (w.reported + i) (commit_at (log_of w) (w.reported + i))
staged_right w i con less =
    let long : length (staged_of w.records w.reported) ≡ length w.records - w.reported = length-staged_of w in
    let short : i < length (drop w.reported w.records) = omega (arith, length-drop w.reported w.records) in
    let far : w.reported + i < length w.records = omega arith in
    let entry : entry_at (drop w.reported w.records) i ≡ entry_at w.records (w.reported + i) = get_or-drop w.reported w.records i _ in
    let is : slice_index_or (staged_of w.records w.reported) i no_ratified ≡ ratified (w.reported + i) (entry_at w.records (w.reported + i)) =
    ratified_from-at w.reported (drop w.reported w.records) i short ∙ ap (ratified (w.reported + i)) entry in
    let P : Ratified → Type 0 = λ r. IsRatifiedAs w.tells r (w.reported + i) (commit_at (log_of w) (w.reported + i)) in
    subst P (sym is) (record {
      version_is = refl;
      id_is = sym (ap (λ (d : Commit). d.id) (log_commit w (w.reported + i) far));
      time_is = λ tells. (con.filed tells).times (w.reported + i) far;
    })

abbrev AllRight : WorldData → List Ratified → ℕ → Type 0
AllRight w items reported = (i : ℕ) → i < length items → IsRatifiedAs w.tells (slice_index_or items i no_ratified) (reported + i) (commit_at (log_of w) (reported + i))

all_right : (w : WorldData) (c : Commits) → IsConsistent w → TellsCommits w.records w.reported c → AllRight w c.staged.items c.reported
all_right w c con t =
    let at_world : AllRight w (staged_of w.records w.reported) w.reported = λ i less. staged_right w i con less in
    let P : List Ratified → Type 0 = λ items. AllRight w items c.reported in
    let Q : ℕ → Type 0 = λ n. AllRight w (staged_of w.records w.reported) n in
    subst P (sym t.staged) (subst Q (sym t.reported) at_world)

unpublished_within : (o : Option Terms) (w : WorldData) (c : Commits) → IfSome o (λ t. t ≡ terms_of w) → IsSized w → TellsCommits w.records w.reported c
    → IfSome o (λ t. c.count ≤ c.reported + t.limits.unpublished)
unpublished_within None w c e s t = tt
unpublished_within (Some terms) w c e s t =
    let P : Terms → Type 0 = λ u. c.count ≤ c.reported + u.limits.unpublished in
    subst P (sym e) (omega (arith, s.unpublished, t.count, t.reported))

pub published_heard : (w : WorldData) (k : Knowledge) (n : ℕ) → IsConsistent w → HoldsIn w k → n ≤ w.reported → IsTrue w.tells
    → (version : ℕ) → version < max k.published n → IsTrue (stands w (name.Published version))
published_heard w k n con h le tells version less =
    elim (below_max version k.published n less) [
      | inl old ↦ h.published tells version old
      | inr new ↦ (con.filed tells).reported version (omega arith)
    ]

commits_known : (w : WorldData) (k : Knowledge) (c : Commits) → IsConsistent w → HoldsIn w k → TellsCommits w.records w.reported c
    → HoldsIn w (record k { seen = log_of w; published = max k.published c.reported; reported = c.reported; heard = k.heard ++ c.reported ∷ []; asks = k.asks + 1 })
commits_known w k c con h t = record {
  terms = h.terms;
  seen = starts_refl _;
  mine = mine_more _ _ k.mine (let e = length-log_of w in let s = seen_length w k h in omega (arith, e, s)) h.mine;
  told = h.told;
  reported = omega (arith, t.reported);
  within = omega arith;
  published = λ tells version less. published_heard w k c.reported con h (omega (arith, t.reported)) tells version less;
  kept = h.kept;
  marks = λ tells. marks_more _ _ k.marks (omega arith) (h.marks tells);
  marked = h.marked;
  faults = h.faults;
}

commits_grown : (w : WorldData) (k : Knowledge) (c : Commits) → HoldsIn w k → TellsCommits w.records w.reported c
    → IsGrown k (record k { seen = log_of w; published = max k.published c.reported; reported = c.reported; heard = k.heard ++ c.reported ∷ []; asks = k.asks + 1 })
commits_grown w k c h t = record {
  terms = refl;
  seen = h.seen;
  mine = starts_refl _;
  rising = λ r. r;
  told = le_refl _;
  published = omega arith;
  reported = omega (arith, h.reported, t.reported);
  kept = starts_refl _;
  marks = starts_refl _;
  cleared = starts_refl _;
  takens = starts_refl _;
  absents = starts_refl _;
  put = starts_refl _;
  failed = starts_refl _;
  tries = starts_refl _;
  heard = starts_more _ _;
  asks = omega arith;
  lists = le_refl _;
  gets = le_refl _;
  looks = le_refl _;
  faults = le_refl _;
}

pub outcome-commits : (w x : WorldData) (k : Knowledge) (r : Result Commits StepFault) → IsConsistent w → HoldsIn w k → CommitsTurn w r x
    → LoneOutcome w x k (commits_learned k r x)
outcome-commits w x k (Ok c) con h t =
    let P : WorldData → Type 0 = λ y. LoneOutcome w y k (commits_learned k (Ok c) y) in
    subst P (sym t.1) (outcome-quiet w k _ con (commits_known w k c con h t.0) (commits_grown w k c h t.0) refl refl (λ e. refl) refl)
outcome-commits w x k (Err Memory) con h t =
    let P : WorldData → Type 0 = λ y. LoneOutcome w y k k in
    subst P (sym t) (outcome-refused w k con h)
outcome-commits w x k (Err (Fault at)) con h t = absurd t

commits_learnt : (w : WorldData) (k : Knowledge) (c : Commits) → IsConsistent w → HoldsIn w k → TellsCommits w.records w.reported c
    → CommitsLearnt w.tells k c (record k { seen = log_of w; published = max k.published c.reported; reported = c.reported; heard = k.heard ++ c.reported ∷ []; asks = k.asks + 1 })
commits_learnt w k c con h t = record {
  same = refl;
  sees = record { front = h.seen; told = let e = length-log_of w in omega (arith, e, h.told) };
  count = t.count ∙ sym (length-log_of w);
  rises = omega (arith, h.reported, t.reported);
  within = omega (arith, con.sized.reported, t.count, t.reported);
  published_before = omega arith;
  published = omega arith;
  staged_length = let e = ap length t.staged in let f = length-staged_of w in omega (arith, e, f, con.sized.reported, t.count, t.reported);
  staged = all_right w c con t;
  unpublished = unpublished_within k.terms w c h.terms con.sized t;
}

pub learns-commits : (w x : WorldData) (k : Knowledge) (r : Result Commits StepFault) → IsConsistent w → HoldsIn w k → CommitsTurn w r x
    → LearnsCommits w.tells k r (commits_learned k r x)
learns-commits w x k (Ok c) con h t =
    let P : WorldData → Type 0 = λ y. LearnsCommits w.tells k (Ok c) (commits_learned k (Ok c) y) in
    subst P (sym t.1) (commits_learnt w k c con h t.0)
learns-commits w x k (Err Memory) con h t = refl
learns-commits w x k (Err (Fault at)) con h t = absurd t

-- the turn that looks for one version

found_in : (w : WorldData) (version : ℕ) → IsConsistent w → (version < length w.records) ⊎ (length w.records ≤ version)
    → IsFoundAs w.tells (ratified_at w.records version) version (log_of w)
found_in w version con (inl less) =
    let is : ratified_at w.records version ≡ Some (ratified version (entry_at w.records version)) =
    ap (option_map (ratified version)) (slice_get-get_or w.records version no_entry less) in
    let P : Option Ratified → Type 0 = λ o. IsFoundAs w.tells o version (log_of w) in
    subst P (sym is) (
      let e = length-log_of w in omega (arith, e, less),
      record {
        version_is = refl;
        id_is = sym (ap (λ (d : Commit). d.id) (log_commit w version less));
        time_is = λ tells. (con.filed tells).times version less;
      },
    )
found_in w version con (inr past) =
    let is : ratified_at w.records version ≡ None = ap (option_map (ratified version)) (slice_get_past w.records version past) in
    let P : Option Ratified → Type 0 = λ o. IsFoundAs w.tells o version (log_of w) in
    subst P (sym is) (let e = length-log_of w in omega (arith, e, past))

lookup_known : (w : WorldData) (k : Knowledge) → HoldsIn w k → HoldsIn w (record k { seen = log_of w; asks = k.asks + 1 })
lookup_known w k h = record {
  terms = h.terms;
  seen = starts_refl _;
  mine = mine_more _ _ k.mine (let e = length-log_of w in let s = seen_length w k h in omega (arith, e, s)) h.mine;
  told = h.told;
  reported = h.reported;
  within = h.within;
  published = h.published;
  kept = h.kept;
  marks = h.marks;
  marked = h.marked;
  faults = h.faults;
}

lookup_grown : (w : WorldData) (k : Knowledge) → HoldsIn w k → IsGrown k (record k { seen = log_of w; asks = k.asks + 1 })
lookup_grown w k h = record {
  terms = refl;
  seen = h.seen;
  mine = starts_refl _;
  rising = λ r. r;
  told = le_refl _;
  published = le_refl _;
  reported = le_refl _;
  kept = starts_refl _;
  marks = starts_refl _;
  cleared = starts_refl _;
  takens = starts_refl _;
  absents = starts_refl _;
  put = starts_refl _;
  failed = starts_refl _;
  tries = starts_refl _;
  heard = starts_refl _;
  asks = omega arith;
  lists = le_refl _;
  gets = le_refl _;
  looks = le_refl _;
  faults = le_refl _;
}

pub outcome-lookup : (version : ℕ) (w x : WorldData) (k : Knowledge) (r : Result Looked StepFault) → IsConsistent w → HoldsIn w k → LookupTurn version w r x
    → LoneOutcome w x k (lookup_learned k r x)
outcome-lookup version w x k (Ok a) con h t =
    let P : WorldData → Type 0 = λ y. LoneOutcome w y k (lookup_learned k (Ok a) y) in
    subst P (sym t.same) (outcome-quiet w k _ con (lookup_known w k h) (lookup_grown w k h) refl refl (λ e. refl) refl)
outcome-lookup version w x k (Err Memory) con h t =
    let P : WorldData → Type 0 = λ y. LoneOutcome w y k k in
    subst P (sym t) (outcome-refused w k con h)
outcome-lookup version w x k (Err (Fault at)) con h t = absurd t

lookup_learnt : (version : ℕ) (w x : WorldData) (k : Knowledge) (a : Looked) → IsConsistent w → HoldsIn w k → Looks w version a x
    → LookupLearnt w.tells version k a (record k { seen = log_of w; asks = k.asks + 1 })
lookup_learnt version w x k a con h t = record {
  same = refl;
  sees = record { front = h.seen; told = let e = length-log_of w in omega (arith, e, h.told) };
  count = t.count ∙ sym (length-log_of w);
  found =
      let P : Option Ratified → Type 0 = λ o. IsFoundAs w.tells o version (log_of w) in
      subst P (sym t.found) (found_in w version con (below_or_above version (length w.records)));
}

pub learns-lookup : (version : ℕ) (w x : WorldData) (k : Knowledge) (r : Result Looked StepFault) → IsConsistent w → HoldsIn w k → LookupTurn version w r x
    → LearnsLookup w.tells version k r (lookup_learned k r x)
learns-lookup version w x k (Ok a) con h t =
    let P : WorldData → Type 0 = λ y. LearnsLookup w.tells version k (Ok a) (lookup_learned k (Ok a) y) in
    subst P (sym t.same) (lookup_learnt version w x k a con h t)
learns-lookup version w x k (Err Memory) con h t = refl
learns-lookup version w x k (Err (Fault at)) con h t = absurd t
