-- The turns that list the folder and read a file.
use Rattle.std.proofs.Common.{◌≡◌, ◌≢◌, ◌<◌, ◌≤◌, ◌+◌, ◌-◌, ◌^◌, ◌&&◌, ◌==◌, ◌⊎◌, inl, inr, ℕ, zero, suc, Bool, true, false, cond, List, [], ◌∷◌, ◌++◌, length, take, drop, refl, sym, ◌∙◌, ap, subst, arith, rules, Option, Some, None, IsTrue, length-append, append-nil, max, unwrap_or}
use Rattle.std.specs.Prelude.{All, Contains, IfSome, is_some, filter_map, Result, Ok, Err, ℤ, slice_index_or, Vec, nat_lt}
use Rattle.std.specs.declared.alloc.Global.{Global}
use Rattle.std.proofs.lemmas.List.{get_or-drop, length-drop}
use Rattle.std.proofs.lemmas.List.Elements.{All-weaker, All-push, All-append, All-contains}
use Rattle.std.proofs.lemmas.Bool.{lt-ltb, eq-eqb, ltb-true, eqb-true}
use Rattle.log_names.specs.declared.LogName.{LogName}
use Rattle.log_names.specs.declared.LogName.TheVariants as name
use Rattle.log_names.specs.Texts.{name_text, published_text, staged_text, checkpoint_text}
use Rattle.commit_catalog.specs.declared.Commits.{Commits}
use Rattle.commit_catalog.specs.declared.Ratified.{Ratified}
use Rattle.commit_catalog.specs.declared.Entry.{Entry}
use Rattle.commit_catalog.specs.Records.{ratified, ratified_from, staged_of}
use Rattle.commit_catalog.specs.Ratifying.{TellsCommits}
use Rattle.object_store.specs.declared.store.Bytes.{Bytes}
use Rattle.object_store.specs.declared.store.Bytes.TheVariants as bytes
use Rattle.table_model.specs.declared.answers.Spot.{Spot}
use Rattle.table_model.specs.declared.answers.Spot.TheVariants as spot
use Rattle.table_model.specs.declared.answers.StepFault.{StepFault}
use Rattle.table_model.specs.declared.answers.StepFault.TheVariants.{Fault, Memory}
use Rattle.table_model.specs.declared.known.Mark.{Mark}
use Rattle.table_model.specs.Log.{Commit, commit_at, commit_time}
use Rattle.table_model.specs.Files.{file_at}
use Rattle.table_model.specs.World.{WorldData, stands, log_of, entry_at, file_of_version, either_file}
use Rattle.table_model.specs.Consistency.{IsSized, IsFiled, IsConsistent}
use Rattle.table_model.specs.Turns.{CommitsTurn, ListTurn, GetTurn, Lists, Finds, IsFailed, listing, is_log_name}
use Rattle.table_model.specs.Knowledge.{Knowledge, Terms, Triple, StartsWith, IsGrown}
use Rattle.table_model.specs.Holding.{HoldsIn, IsLater, IsKeptIn, terms_of}
use Rattle.table_model.specs.Conditions.{triple}
use Rattle.table_model.specs.Learning.{LearnsCommits, CommitsLearnt, IsRatifiedAs, no_ratified, SeesLog, LearnsList, ListLearnt, ShowsPublished, mark_of, LearnsGet, WholeLearnt, AbsentLearnt, IsOfCommit, kept_after, IsDue, IsShown, IsMissing, fault_noted}
use Rattle.table_model.specs.Learned.{commits_learned, list_learned, get_learned, shown_in, published_by, published_where_gone}
use Rattle.table_model.specs.Alone.{LoneOutcome}
use Rattle.table_model.proofs.Growing.{starts_refl, starts_more, starts_trans, le_refl, le_trans, grows_refl}
use Rattle.table_model.proofs.Worlds.{later_refl, later_trans, later_tally, consistent_tally, holds_later, below_or_above, bytes_of, is_there}
use Rattle.table_model.proofs.Knowing.{seen_length, length-log_of, seen_commit, all_seen, log_commit, commit_file}
use Rattle.table_model.proofs.Outcomes.{outcome-quiet, outcome-refused, outcome-failed, below_max, marks_more, mine_more}
use Rattle.table_model.proofs.Asking.{outcome-failed_read}
use Rattle.table_model.proofs.FileLaws.{both_true}
use Rattle.table_model.proofs.Listing.{In, in-Contains, Contains-in, listing-stands, stands-listing, shown_above, shown_below}

-- below a version that is published and stands each is published
standing_below : (w : WorldData) → IsFiled w → (u v : ℕ) → IsTrue (stands w (name.Published u)) → v ≤ u → IsTrue (stands w (name.Published v))
standing_below w f u v h le = elim (below_or_above v u) [
  | inl below ↦ f.leading u v h below
  | inr above ↦ (let e : u ≡ v = omega arith in let P : ℕ → Type 0 = λ n. IsTrue (stands w (name.Published n)) in subst P e h)
]

listed_stands : (w : WorldData) (names : List LogName) → names ≡ listing w.files → (n : LogName) (t : List ℕ) → name_text n ≡ Some t → In names n → IsTrue (stands w n)
listed_stands w names e n t text h =
    let P : List LogName → Type 0 = λ ns. In ns n in
    listing-stands w.files n t text (Contains-in _ n (subst P e h))

shown_stands : (w : WorldData) (names : List LogName) → IsFiled w → names ≡ listing w.files → (v : ℕ) → v < shown_in names → IsTrue (stands w (name.Published v))
shown_stands w names f e v less =
    let above = shown_below names v less in
    standing_below w f above.0 v (listed_stands w names e (name.Published above.0) (published_text above.0) refl above.1) above.2

one_marked : (P : Mark → Type 0) (m : Mark) → P m → All P (m ∷ [])
one_marked P m h = All-push P [] m (λ n d less. absurd (omega arith)) h

-- a published version that stands is listed
listed_again : (w : WorldData) (names : List LogName) → names ≡ listing w.files → (v : ℕ) → IsTrue (stands w (name.Published v)) → Contains names (name.Published v)
listed_again w names e v there =
    let P : List LogName → Type 0 = λ ns. Contains ns (name.Published v) in
    subst P (sym e) (stands-listing w.files (name.Published v) (published_text v) refl refl there)

published_else : (o p : Option (List ℕ)) → IsTrue (is_some (either_file o p)) → p ≡ None → IsTrue (is_some o)
published_else None p h none = let k : false ≡ true = sym (ap is_some none) ∙ h in cc
published_else (Some b) p h none = refl

-- of each name with a mark
each_marked : (P : Mark → Type 0) (names : List LogName) → ((version id : ℕ) → In names (name.Checkpoint version id) → P (record { version = version; id = id }))
    → All P (filter_map mark_of names)
each_marked P [] h = λ n d less. absurd (omega arith)
each_marked P (name.Published version ∷ ns) h = each_marked P ns (λ v id there. h v id (inr there))
each_marked P (name.Staged version i ∷ ns) h = each_marked P ns (λ v id there. h v id (inr there))
each_marked P (name.Checkpoint version i ∷ ns) h =
    All-append P (record { version = version; id = i } ∷ []) (filter_map mark_of ns) (one_marked P (record { version = version; id = i }) (h version i (inl refl)))
    (each_marked P ns (λ v id there. h v id (inr there)))
each_marked P (name.Parquet version ∷ ns) h = each_marked P ns (λ v id there. h v id (inr there))
each_marked P (name.Other ∷ ns) h = each_marked P ns (λ v id there. h v id (inr there))

list_known : (w : WorldData) (k : Knowledge) (names : List LogName) → IsConsistent w → HoldsIn w k → (IsTrue w.tells → names ≡ listing w.files)
    → HoldsIn w (record k { listed = names; published = max k.published (shown_in names); marks = k.marks ++ filter_map mark_of names; lists = k.lists + 1 })
list_known w k names con h e = record {
  terms = h.terms;
  seen = h.seen;
  mine = h.mine;
  told = h.told;
  reported = h.reported;
  within = let s = h.within in omega arith;
  published = λ tells version less. elim (below_max version k.published (shown_in names) less) [
    | inl old ↦ h.published tells version old
    | inr new ↦ shown_stands w names (con.filed tells) (e tells) version new
  ];
  kept = h.kept;
  marks = λ tells. All-append (λ (m : Mark). m.version < max k.published (shown_in names)) k.marks (filter_map mark_of names)
      (marks_more _ _ k.marks (omega arith) (h.marks tells))
      (each_marked (λ (m : Mark). m.version < max k.published (shown_in names)) names (λ version id there.
      let above : version < shown_in names = shown_above names version (in-Contains _ (name.Published version) (listed_again w names (e tells) version
      ((con.filed tells).checkpoints version id (listed_stands w names (e tells) (name.Checkpoint version id) (checkpoint_text version id) refl there)))) in omega arith));
  marked = λ tells. All-append (λ (m : Mark). IsTrue (stands w (name.Checkpoint m.version m.id))) k.marks (filter_map mark_of names)
      (h.marked tells)
      (each_marked (λ (m : Mark). IsTrue (stands w (name.Checkpoint m.version m.id))) names (λ version id there.
      listed_stands w names (e tells) (name.Checkpoint version id) (checkpoint_text version id) refl there));
  faults = h.faults;
}

list_grown : (k : Knowledge) (names : List LogName) → IsGrown k (record k { listed = names; published = max k.published (shown_in names); marks = k.marks ++ filter_map mark_of names; lists = k.lists + 1 })
list_grown k names = record {
  terms = refl;
  seen = starts_refl _;
  mine = starts_refl _;
  rising = λ r. r;
  told = le_refl _;
  published = omega arith;
  reported = le_refl _;
  kept = starts_refl _;
  marks = starts_more _ _;
  cleared = starts_refl _;
  takens = starts_refl _;
  absents = starts_refl _;
  put = starts_refl _;
  failed = starts_refl _;
  tries = starts_refl _;
  heard = starts_refl _;
  asks = le_refl _;
  lists = omega arith;
  gets = le_refl _;
  looks = le_refl _;
  faults = le_refl _;
}

list_learnt : (w : WorldData) (k : Knowledge) (names : List LogName) → IsConsistent w → HoldsIn w k → (IsTrue w.tells → names ≡ listing w.files)
    → ListLearnt w.tells k names (record k { listed = names; published = max k.published (shown_in names); marks = k.marks ++ filter_map mark_of names; lists = k.lists + 1 })
list_learnt w k names con h e = record {
  same = refl;
  published_before = omega arith;
  shown = shown_in names;
  shows = λ tells version. (λ there. shown_above names version (in-Contains _ _ there), λ less. listed_again w names (e tells) version (shown_stands w names (con.filed tells) (e tells) version less));
  published = omega arith;
}

pub outcome-list : (w x : WorldData) (k : Knowledge) (r : Result (Vec LogName Global) StepFault) → IsConsistent w → HoldsIn w k → ListTurn w r x
    → LoneOutcome w x k (list_learned k r)
outcome-list w x k (Ok names) con h t =
    let P : WorldData → Type 0 = λ y. LoneOutcome w y k (list_learned k (Ok names)) in
    subst P (sym t.same) (outcome-quiet w k _ con (list_known w k names.items con h t.names_are) (list_grown k names.items) refl refl (λ e. e) refl)
outcome-list w x k (Err Memory) con h t =
    let P : WorldData → Type 0 = λ y. LoneOutcome w y k k in
    subst P (sym t) (outcome-refused w k con h)
outcome-list w x k (Err (Fault at)) con h t = outcome-failed_read w x k at con h t.1

pub learns-list : (w x : WorldData) (k : Knowledge) (r : Result (Vec LogName Global) StepFault) → IsConsistent w → HoldsIn w k → ListTurn w r x
    → LearnsList w.tells k r (list_learned k r)
learns-list w x k (Ok names) con h t = list_learnt w k names.items con h t.names_are
learns-list w x k (Err Memory) con h t = refl
learns-list w x k (Err (Fault at)) con h t = (t.0, refl)

-- a file that was read

abbrev IsFound : WorldData → LogName → List ℕ → Type 0
IsFound w n b = IsTrue w.tells → file_at w.files n ≡ Some b

found_published : (w : WorldData) (k : Knowledge) (v : ℕ) (b : List ℕ) → IsConsistent w → HoldsIn w k → IsFound w (name.Published v) b
    → HoldsIn w (record k { published = max k.published (v + 1); gets = k.gets + 1 })
found_published w k v b con h found = record {
  terms = h.terms;
  seen = h.seen;
  mine = h.mine;
  told = h.told;
  reported = h.reported;
  within = let s = h.within in omega arith;
  published = λ tells version less. elim (below_max version k.published (v + 1) less) [
    | inl old ↦ h.published tells version old
    | inr new ↦ standing_below w (con.filed tells) v version (is_there _ b (found tells)) (omega arith)
  ];
  kept = h.kept;
  marks = λ tells. marks_more _ _ k.marks (omega arith) (h.marks tells);
  marked = h.marked;
  faults = h.faults;
}

found_staged : (w : WorldData) (k : Knowledge) (v id : ℕ) (b : List ℕ) → HoldsIn w k → IsFound w (name.Staged v id) b
    → HoldsIn w (record k { published = k.published; kept = k.kept ++ triple v id b ∷ []; gets = k.gets + 1 })
found_staged w k v id b h found = record {
  terms = h.terms;
  seen = h.seen;
  mine = h.mine;
  told = h.told;
  reported = h.reported;
  within = h.within;
  published = h.published;
  kept = λ tells. All-push (IsKeptIn w) k.kept (triple v id b) (h.kept tells) (inr (found tells));
  marks = h.marks;
  marked = h.marked;
  faults = h.faults;
}

found_other : (w : WorldData) (k : Knowledge) → HoldsIn w k → HoldsIn w (record k { gets = k.gets + 1 })
found_other w k h = record {
  terms = h.terms;
  seen = h.seen;
  mine = h.mine;
  told = h.told;
  reported = h.reported;
  within = h.within;
  published = h.published;
  kept = h.kept;
  marks = h.marks;
  marked = h.marked;
  faults = h.faults;
}

get_known : (w : WorldData) (k : Knowledge) (n : LogName) (b : List ℕ) → IsConsistent w → HoldsIn w k → IsFound w n b
    → HoldsIn w (record (kept_after n b k) { published = published_by n k.published; gets = k.gets + 1 })
get_known w k (name.Published v) b con h found = found_published w k v b con h found
get_known w k (name.Staged v id) b con h found = found_staged w k v id b h found
get_known w k (name.Checkpoint v id) b con h found = found_other w k h
get_known w k (name.Parquet v) b con h found = found_other w k h
get_known w k name.Other b con h found = found_other w k h

gets_grown : (k : Knowledge) (p : ℕ) → k.published ≤ p → IsGrown k (record k { published = p; gets = k.gets + 1 })
gets_grown k p le = record {
  terms = refl;
  seen = starts_refl _;
  mine = starts_refl _;
  rising = λ r. r;
  told = le_refl _;
  published = le;
  reported = le_refl _;
  kept = starts_refl _;
  marks = starts_refl _;
  cleared = starts_refl _;
  takens = starts_refl _;
  absents = starts_refl _;
  put = starts_refl _;
  failed = starts_refl _;
  tries = starts_refl _;
  heard = starts_refl _;
  asks = le_refl _;
  lists = le_refl _;
  gets = omega arith;
  looks = le_refl _;
  faults = le_refl _;
}

get_grown : (k : Knowledge) (n : LogName) (b : List ℕ) → IsGrown k (record (kept_after n b k) { published = published_by n k.published; gets = k.gets + 1 })
get_grown k (name.Published v) b = gets_grown k _ (omega arith)
get_grown k (name.Staged v id) b = record {
  terms = refl;
  seen = starts_refl _;
  mine = starts_refl _;
  rising = λ r. r;
  told = le_refl _;
  published = le_refl _;
  reported = le_refl _;
  kept = starts_more _ _;
  marks = starts_refl _;
  cleared = starts_refl _;
  takens = starts_refl _;
  absents = starts_refl _;
  put = starts_refl _;
  failed = starts_refl _;
  tries = starts_refl _;
  heard = starts_refl _;
  asks = le_refl _;
  lists = le_refl _;
  gets = omega arith;
  looks = le_refl _;
  faults = le_refl _;
}
get_grown k (name.Checkpoint v id) b = gets_grown k _ (le_refl _)
get_grown k (name.Parquet v) b = gets_grown k _ (le_refl _)
get_grown k name.Other b = gets_grown k _ (le_refl _)

get_mine : (k : Knowledge) (n : LogName) (b : List ℕ) → ((kept_after n b k).mine ≡ k.mine) × ((kept_after n b k).faults ≡ k.faults)
get_mine k (name.Published v) b = (refl, refl)
get_mine k (name.Staged v id) b = (refl, refl)
get_mine k (name.Checkpoint v id) b = (refl, refl)
get_mine k (name.Parquet v) b = (refl, refl)
get_mine k name.Other b = (refl, refl)

-- a file that was gone

gone_test : (w : WorldData) (k : Knowledge) (v id : ℕ) → (nat_lt v (length k.seen) && (id == (commit_at k.seen v).id)) ≡ true
    → (v < length k.seen) × (id ≡ (commit_at k.seen v).id)
gone_test w k v id e = let p = both_true _ _ e in (ltb-true _ _ p.0, eqb-true _ _ p.1)

-- a ratified version whose staged file is gone is published
gone_stands : (w : WorldData) (k : Knowledge) (v id : ℕ) → IsFiled w → HoldsIn w k → v < length k.seen → id ≡ (commit_at k.seen v).id
    → file_at w.files (name.Staged v id) ≡ None → IsTrue (stands w (name.Published v))
gone_stands w k v id f h less same none =
    let far : v < length w.records = let s = seen_length w k h in omega arith in
    let entry : id ≡ (entry_at w.records v).id = same ∙ ap (λ (c : Commit). c.id) (seen_commit w k h v less ∙ log_commit w v far) in
    let P : ℕ → Type 0 = λ i. file_at w.files (name.Staged v i) ≡ None in
    let absent : file_at w.files (name.Staged v (entry_at w.records v).id) ≡ None = subst P entry none in
    published_else _ _ (f.kept v far) absent

gone_holds : (w : WorldData) (k : Knowledge) (v id : ℕ) (b : Bool) → IsConsistent w → HoldsIn w k
    → (nat_lt v (length k.seen) && (id == (commit_at k.seen v).id)) ≡ b → (IsTrue w.tells → file_at w.files (name.Staged v id) ≡ None)
    → HoldsIn w (record k { published = cond b (max k.published (v + 1)) k.published; absents = k.absents ++ name.Staged v id ∷ []; gets = k.gets + 1 })
gone_holds w k v id false con h e none = record {
  terms = h.terms;
  seen = h.seen;
  mine = h.mine;
  told = h.told;
  reported = h.reported;
  within = h.within;
  published = h.published;
  kept = h.kept;
  marks = h.marks;
  marked = h.marked;
  faults = h.faults;
}
gone_holds w k v id true con h e none = let p = gone_test w k v id e in record {
  terms = h.terms;
  seen = h.seen;
  mine = h.mine;
  told = h.told;
  reported = h.reported;
  within = let s = h.within in omega arith;
  published = λ tells version less. elim (below_max version k.published (v + 1) less) [
    | inl old ↦ h.published tells version old
    | inr new ↦ standing_below w (con.filed tells) v version (gone_stands w k v id (con.filed tells) h p.0 p.1 (none tells)) (omega arith)
  ];
  kept = h.kept;
  marks = λ tells. marks_more _ _ k.marks (omega arith) (h.marks tells);
  marked = h.marked;
  faults = h.faults;
}

absent_holds : (w : WorldData) (k : Knowledge) (n : LogName) → HoldsIn w k
    → HoldsIn w (record k { absents = k.absents ++ n ∷ []; gets = k.gets + 1 })
absent_holds w k n h = record {
  terms = h.terms;
  seen = h.seen;
  mine = h.mine;
  told = h.told;
  reported = h.reported;
  within = h.within;
  published = h.published;
  kept = h.kept;
  marks = h.marks;
  marked = h.marked;
  faults = h.faults;
}

absent_known : (w : WorldData) (k : Knowledge) (n : LogName) → IsConsistent w → HoldsIn w k → (IsTrue w.tells → file_at w.files n ≡ None)
    → HoldsIn w (record k { published = published_where_gone n k.seen k.published; absents = k.absents ++ n ∷ []; gets = k.gets + 1 })
absent_known w k (name.Published v) con h none = absent_holds w k _ h
absent_known w k (name.Staged v id) con h none = gone_holds w k v id _ con h refl none
absent_known w k (name.Checkpoint v id) con h none = absent_holds w k _ h
absent_known w k (name.Parquet v) con h none = absent_holds w k _ h
absent_known w k name.Other con h none = absent_holds w k _ h

cond_more : (b : Bool) (n p : ℕ) → n ≤ cond b (max n p) n
cond_more true n p = omega arith
cond_more false n p = omega arith

pub gone_more : (n : LogName) (seen : List Commit) (p : ℕ) → p ≤ published_where_gone n seen p
gone_more (name.Published v) seen p = omega arith
gone_more (name.Staged v id) seen p = cond_more _ p (v + 1)
gone_more (name.Checkpoint v id) seen p = omega arith
gone_more (name.Parquet v) seen p = omega arith
gone_more name.Other seen p = omega arith

absent_grown : (k : Knowledge) (n : LogName)
    → IsGrown k (record k { published = published_where_gone n k.seen k.published; absents = k.absents ++ n ∷ []; gets = k.gets + 1 })
absent_grown k n = record {
  terms = refl;
  seen = starts_refl _;
  mine = starts_refl _;
  rising = λ r. r;
  told = le_refl _;
  published = gone_more n k.seen k.published;
  reported = le_refl _;
  kept = starts_refl _;
  marks = starts_refl _;
  cleared = starts_refl _;
  takens = starts_refl _;
  absents = starts_more _ _;
  put = starts_refl _;
  failed = starts_refl _;
  tries = starts_refl _;
  heard = starts_refl _;
  asks = le_refl _;
  lists = le_refl _;
  gets = omega arith;
  looks = le_refl _;
  faults = le_refl _;
}

kept_seen : (n : LogName) (b : List ℕ) (k : Knowledge) → (kept_after n b k).seen ≡ k.seen
kept_seen (name.Published v) b k = refl
kept_seen (name.Staged v id) b k = refl
kept_seen (name.Checkpoint v id) b k = refl
kept_seen (name.Parquet v) b k = refl
kept_seen name.Other b k = refl

kept_tries : (n : LogName) (b : List ℕ) (k : Knowledge) → (kept_after n b k).tries ≡ k.tries
kept_tries (name.Published v) b k = refl
kept_tries (name.Staged v id) b k = refl
kept_tries (name.Checkpoint v id) b k = refl
kept_tries (name.Parquet v) b k = refl
kept_tries name.Other b k = refl

pub outcome-get : (n : LogName) (w x : WorldData) (k : Knowledge) (r : Result Bytes StepFault) → IsConsistent w → HoldsIn w k → GetTurn n w r x
    → LoneOutcome w x k (get_learned n k r)
outcome-get n w x k (Ok (bytes.Whole b)) con h t =
    let P : WorldData → Type 0 = λ y. LoneOutcome w y k (get_learned n k (Ok (bytes.Whole b))) in
    let m = get_mine k n b.items in
    subst P (sym t.same) (outcome-quiet w k _ con (get_known w k n b.items con h t.is) (get_grown k n b.items) m.0 m.1 (λ e. kept_seen n b.items k ∙ e) (kept_tries n b.items k))
outcome-get n w x k (Ok bytes.Absent) con h t =
    let P : WorldData → Type 0 = λ y. LoneOutcome w y k (get_learned n k (Ok bytes.Absent)) in
    subst P (sym t.same) (outcome-quiet w k _ con (absent_known w k n con h t.is) (absent_grown k n) refl refl (λ e. e) refl)
outcome-get n w x k (Err Memory) con h t =
    let P : WorldData → Type 0 = λ y. LoneOutcome w y k k in
    subst P (sym t) (outcome-refused w k con h)
outcome-get n w x k (Err (Fault at)) con h t = outcome-failed_read w x k at con h t.1

-- what was read is what the log has

file_of_published : (o p : Option (List ℕ)) (b c : List ℕ) → either_file o p ≡ Some c → o ≡ Some b → b ≡ c
file_of_published None p b c e f = cc
file_of_published (Some d) p b c e f = cc

file_of_staged : (o p : Option (List ℕ)) (b c : List ℕ) → either_file o p ≡ Some c → p ≡ Some b → ((d : List ℕ) → o ≡ Some d → d ≡ b) → b ≡ c
file_of_staged None p b c e f equal = cc
file_of_staged (Some d) p b c e f equal = let g : d ≡ b = equal d refl in cc

due : (w : WorldData) (k : Knowledge) (n : LogName) (b : List ℕ) → IsFiled w → HoldsIn w k → file_at w.files n ≡ Some b → IsDue n b k.seen
due w k (name.Published v) b f h found = λ less.
    let far : v < length w.records = let s = seen_length w k h in omega arith in
    file_of_published _ _ b _ (commit_file w f v far) found ∙ sym (ap (λ (c : Commit). c.bytes) (seen_commit w k h v less))
due w k (name.Staged v id) b f h found = λ less same.
    let far : v < length w.records = let s = seen_length w k h in omega arith in
    let entry : id ≡ (entry_at w.records v).id = same ∙ ap (λ (c : Commit). c.id) (seen_commit w k h v less ∙ log_commit w v far) in
    let P : ℕ → Type 0 = λ i. file_at w.files (name.Staged v i) ≡ Some b in
    let there : file_at w.files (name.Staged v (entry_at w.records v).id) ≡ Some b = subst P entry found in
    file_of_staged _ _ b _ (commit_file w f v far) there (λ d e. f.equal v d b far e there) ∙ sym (ap (λ (c : Commit). c.bytes) (seen_commit w k h v less))
due w k (name.Checkpoint v id) b f h found = tt
due w k (name.Parquet v) b f h found = tt
due w k name.Other b f h found = tt

by_more : (n : LogName) (p : ℕ) → p ≤ published_by n p
by_more (name.Published v) p = omega arith
by_more (name.Staged v id) p = omega arith
by_more (name.Checkpoint v id) p = omega arith
by_more (name.Parquet v) p = omega arith
by_more name.Other p = omega arith

by_shown : (n : LogName) (p : ℕ) → IsShown n (published_by n p)
by_shown (name.Published v) p = omega arith
by_shown (name.Staged v id) p = tt
by_shown (name.Checkpoint v id) p = tt
by_shown (name.Parquet v) p = tt
by_shown name.Other p = tt

-- a name of no commit tells nothing of what is published

by_leaves : (n : LogName) (seen : List Commit) (p : ℕ) → ¬ (IsOfCommit n seen) → published_by n p ≡ p
by_leaves (name.Published v) seen p none = absurd (none tt)
by_leaves (name.Staged v id) seen p none = refl
by_leaves (name.Checkpoint v id) seen p none = refl
by_leaves (name.Parquet v) seen p none = refl
by_leaves name.Other seen p none = refl

cond_leaves : (b : Bool) (n q : ℕ) → ¬ (b ≡ true) → cond b q n ≡ n
cond_leaves true n q differ = absurd (differ refl)
cond_leaves false n q differ = refl

gone_leaves : (n : LogName) (seen : List Commit) (p : ℕ) → ¬ (IsOfCommit n seen) → published_where_gone n seen p ≡ p
gone_leaves (name.Published v) seen p none = refl
gone_leaves (name.Staged v id) seen p none =
    cond_leaves (nat_lt v (length seen) && (id == (commit_at seen v).id)) p (max p (v + 1)) (λ e. none (let t = both_true _ _ e in (ltb-true _ _ t.0, eqb-true _ _ t.1)))
gone_leaves (name.Checkpoint v id) seen p none = refl
gone_leaves (name.Parquet v) seen p none = refl
gone_leaves name.Other seen p none = refl

-- what was missing is none that is known to stand

not_standing : (o : Option (List ℕ)) → o ≡ None → IsTrue (is_some o) → ⊥
not_standing o none there = let k : false ≡ true = sym (ap is_some none) ∙ there in cc

missing : (w : WorldData) (k : Knowledge) (n : LogName) → IsTrue w.tells → IsConsistent w → HoldsIn w k → file_at w.files n ≡ None
    → IsMissing n k (record k { published = published_where_gone n k.seen k.published; absents = k.absents ++ n ∷ []; gets = k.gets + 1 })
missing w k (name.Published v) tells con h none = elim (below_or_above v k.published) [
  | inl below ↦ absurd (not_standing _ none (h.published tells v below))
  | inr above ↦ above
]
missing w k (name.Staged v id) tells con h none = λ less same.
    let test : (nat_lt v (length k.seen) && (id == (commit_at k.seen v).id)) ≡ true = rw (lt-ltb v (length k.seen) less, eq-eqb id (commit_at k.seen v).id same) refl in
    let P : Bool → Type 0 = λ b. v < cond b (max k.published (v + 1)) k.published in
    subst P (sym test) (omega arith)
missing w k (name.Checkpoint v id) tells con h none = λ there.
    not_standing _ none (All-contains (λ (m : Mark). IsTrue (stands w (name.Checkpoint m.version m.id))) k.marks (record { version = v; id = id }) (h.marked tells) there)
missing w k (name.Parquet v) tells con h none = tt
missing w k name.Other tells con h none = tt

pub learns-get : (n : LogName) (w x : WorldData) (k : Knowledge) (r : Result Bytes StepFault) → IsConsistent w → HoldsIn w k → GetTurn n w r x
    → LearnsGet w.tells n k r (get_learned n k r)
learns-get n w x k (Ok (bytes.Whole b)) con h t = record {
  same = refl;
  published_before = by_more n k.published;
  leaves = by_leaves n k.seen k.published;
  published = by_shown n k.published;
  due = λ tells. (let P : List Commit → Type 0 = λ seen. IsDue n b.items seen in subst P (sym (kept_seen n b.items k)) (due w k n b.items (con.filed tells) h (t.is tells)));
}
learns-get n w x k (Ok bytes.Absent) con h t = record {
  same = refl;
  published_before = gone_more n k.seen k.published;
  leaves = gone_leaves n k.seen k.published;
  missing = λ tells. missing w k n tells con h (t.is tells);
}
learns-get n w x k (Err Memory) con h t = refl
learns-get n w x k (Err (Fault at)) con h t = (t.0, refl)
