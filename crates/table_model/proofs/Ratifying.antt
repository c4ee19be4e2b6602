-- The turn that ratifies: one commit more at the end, or the exact refusal.
use Rattle.std.proofs.Common.{◌≡◌, ◌≢◌, ◌<◌, ◌≤◌, ◌+◌, ◌^◌, ◌⊎◌, inl, inr, ℕ, zero, suc, Bool, true, false, cond, List, [], ◌∷◌, ◌++◌, length, take, drop, refl, sym, ◌∙◌, ap, subst, arith, rules, Option, Some, None, IsTrue, length-append, append-nil, max, unwrap_or}
use Rattle.std.specs.Prelude.{All, Contains, IfSome, is_some, Result, Ok, Err, ℤ, slice_index_or}
use Rattle.std.proofs.lemmas.List.Elements.{All-weaker, All-push, All-append, All-contains, Contains-push}
use Rattle.std.proofs.lemmas.List.Quantifiers.{all_pairs_push}
use Rattle.std.proofs.lemmas.Bool.Decides.{eqb_tells}
use Rattle.log_names.specs.declared.LogName.{LogName}
use Rattle.log_names.specs.declared.LogName.TheVariants as name
use Rattle.log_names.specs.Texts.{name_text, published_text, staged_text, checkpoint_text}
use Rattle.commit_catalog.specs.declared.Entry.{Entry}
use Rattle.object_store.specs.Files.{Files}
use Rattle.table_model.specs.declared.answers.Spot.{Spot}
use Rattle.table_model.specs.declared.known.Mark.{Mark}
use Rattle.table_model.specs.Log.{Commit, commit_at, commit_time, no_commit, IsNextCommit, IsSound}
use Rattle.table_model.specs.Files.{fits, file_at, put_at, drop_at, stands_at}
use Rattle.table_model.specs.World.{WorldData, stands, log_of, entry_at, no_entry, commit_of, commits_from, file_of_version, either_file, told_put, told_drop}
use Rattle.table_model.specs.Consistency.{IsSized, IsFiled, IsConsistent}
use Rattle.table_model.specs.Turns.{IsInDoubt, IsRatifiedUnder, after_put}
use Rattle.table_model.specs.Knowledge.{Knowledge, Terms, Triple, StartsWith, IsGrown}
use Rattle.table_model.specs.Holding.{HoldsIn, IsLater, IsKeptIn, terms_of}
use Rattle.table_model.specs.Conditions.{triple, MayRatify, MayPublish, MayReport, MayClear}
use Rattle.table_model.specs.Learning.{fault_noted}
use Rattle.table_model.specs.Alone.{LosesNone, LoneOutcome, MeetsLimit}
use Rattle.table_model.proofs.FileLaws.{fits_published, fits_staged, file_at-put_at, file_at-put_at_other, file_at-drop_at, file_at-drop_at_other}
use Rattle.table_model.proofs.Growing.{starts_refl, starts_more, starts_trans, le_refl, le_trans, grows_refl}
use Rattle.table_model.proofs.Logs.{commits_from-same, commits_from-append}
use Rattle.table_model.proofs.Worlds.{later_refl, later_trans, later_tally, consistent_tally, holds_later, below_or_above, bytes_of, is_there}
use Rattle.table_model.proofs.Knowing.{seen_length, length-log_of, seen_commit, all_seen, log_commit, commit_file}
use Rattle.table_model.proofs.Outcomes.{none_lost, outcome-still, outcome-quiet, outcome-refused, outcome-failed, below_max, marks_more, mine_more}
use Rattle.commit_catalog.specs.declared.Ratify.{Ratify}
use Rattle.commit_catalog.specs.declared.Ratify.TheVariants as ratify
use Rattle.commit_catalog.specs.Ratifying.{RatifyAnswers, IsLost, IsFull, IsBacklog, IsFree}
use Rattle.std.proofs.Math.ListN.{get_or-append}
use Rattle.std.proofs.Math.Seq.{get_or-append_seam}
use Rattle.std.proofs.lemmas.List.{take_all}
use Rattle.std.proofs.lemmas.Bool.{eq-eqb}
use Rattle.std.proofs.Common.{◌==◌}
use Rattle.std.specs.Prelude.{nat_eq}
use Rattle.table_model.specs.declared.answers.StepFault.{StepFault}
use Rattle.table_model.specs.declared.answers.StepFault.TheVariants.{Fault, Memory}
use Rattle.table_model.specs.declared.known.Try.{Try}
use Rattle.table_model.specs.declared.known.Refusal.{Refusal}
use Rattle.table_model.specs.declared.known.Refusal.TheVariants as refusal
use Rattle.table_model.specs.Turns.{RatifyTurn, Ratifies}
use Rattle.table_model.specs.Learning.{LearnsRatify, RatifiedLearnt, NewCommit, LostLearnt, FullLearnt, BacklogLearnt, SeesLog, tries_after}
use Rattle.table_model.specs.Learned.{ratify_learned}
use Rattle.table_model.proofs.Sound.{last_or_below, sound-push}
use Rattle.table_model.proofs.Asking.{published_heard}

abbrev new_entry : ℕ → ℤ → Entry
new_entry id time = record { id = id; time = time }

abbrev ratified_world : WorldData → ℕ → ℤ → WorldData
ratified_world w id time = record w { records = w.records ++ new_entry id time ∷ [] }

-- what is known of a ratification that is done: its caller has seen the whole log, and the staged file stands
record Ready (w : WorldData) (k : Knowledge) (version id : ℕ) (time : ℤ) (text : List ℕ) : Type 0 where
  at_end : version ≡ length w.records
  seen : k.seen ≡ log_of w
  kept : Contains k.kept (triple version id text)
  file : IsTrue w.tells → file_at w.files (name.Staged version id) ≡ Some text
  next : IsTrue w.tells → IsNextCommit (log_of w) text
  timed : IsTrue w.tells → time ≡ commit_time text

kept_file : (w : WorldData) (t : Triple) → length w.records ≤ t.version → IsKeptIn w t → file_at w.files (name.Staged t.version t.id) ≡ Some t.bytes
kept_file w t above (inl below) = absurd (omega arith)
kept_file w t above (inr there) = there

ready : (w : WorldData) (k : Knowledge) (version id : ℕ) (time : ℤ) → HoldsIn w k → (m : MayRatify w.tells k version id time) → length w.records ≤ version
    → Ready w k version id time m.bytes
ready w k version id time h m above =
    let short : length k.seen ≤ length w.records = seen_length w k h in
    let seen : k.seen ≡ log_of w = all_seen w k h (let b = m.below in omega arith) in
    let P : List Commit → Type 0 = λ log. IsNextCommit log m.bytes in
    record {
      at_end = let b = m.below in omega arith;
      seen = seen;
      kept = m.kept;
      file = λ tells. kept_file w (triple version id m.bytes) above (All-contains (IsKeptIn w) k.kept (triple version id m.bytes) (h.kept tells) m.kept);
      next = λ tells. subst P (take_all version k.seen (let b = m.below in omega arith) ∙ seen) (m.next tells);
      timed = m.timed;
    }

none_of : (o : Option (List ℕ)) → (IsTrue (is_some o) → ⊥) → o ≡ None
none_of None h = refl
none_of (Some b) h = absurd (h refl)

last_commit : (files : Files) (n m : ℕ) (e : Entry) → n ≡ m → commits_from files n (e ∷ []) ≡ commit_of files m e ∷ []
unfolding commits_from
last_commit files n m e same = ap (λ v. commit_of files v e ∷ []) same

log_ratified : (w : WorldData) (id : ℕ) (time : ℤ) → log_of (ratified_world w id time) ≡ log_of w ++ commit_of w.files (length w.records) (new_entry id time) ∷ []
log_ratified w id time =
    commits_from-append w.files 0 w.records (new_entry id time ∷ [])
    ∙ ap (λ cs. log_of w ++ cs) (last_commit w.files (0 + length w.records) (length w.records) (new_entry id time) (omega arith))

unpublished : (w : WorldData) → IsFiled w → file_at w.files (name.Published (length w.records)) ≡ None
unpublished w f = none_of _ (λ there. let less = f.ratified (length w.records) there in omega arith)

staged_text_of : (o p : Option (List ℕ)) (text : List ℕ) → o ≡ None → p ≡ Some text → either_file o p ≡ Some text
staged_text_of None p text none e = e
staged_text_of (Some b) p text none e = cc

new_file : (w : WorldData) (k : Knowledge) (version id : ℕ) (time : ℤ) (text : List ℕ) → IsFiled w → w.tells ≡ true → Ready w k version id time text
    → file_of_version w.files (length w.records) id ≡ Some text
new_file w k version id time text f tells r =
    let P : ℕ → Type 0 = λ n. file_at w.files (name.Staged n id) ≡ Some text in
    staged_text_of _ _ text (unpublished w f) (subst P r.at_end (r.file tells))

new_commit : (w : WorldData) (k : Knowledge) (version id : ℕ) (time : ℤ) (text : List ℕ) → IsFiled w → w.tells ≡ true → Ready w k version id time text
    → commit_of w.files (length w.records) (new_entry id time) ≡ record { id = id; bytes = text }
new_commit w k version id time text f tells r =
    ap (λ (o : Option (List ℕ)). let c : Commit = record { id = id; bytes = unwrap_or o [] } in c) (new_file w k version id time text f tells r)

entry_below : (w : WorldData) (id : ℕ) (time : ℤ) (v : ℕ) → v < length w.records → entry_at (w.records ++ new_entry id time ∷ []) v ≡ entry_at w.records v
entry_below w id time v less = get_or-append w.records (new_entry id time ∷ []) no_entry v less

entry_last : (w : WorldData) (id : ℕ) (time : ℤ) → entry_at (w.records ++ new_entry id time ∷ []) (length w.records) ≡ new_entry id time
entry_last w id time = get_or-append_seam w.records (new_entry id time) [] no_entry

kept_again : (w : WorldData) (k : Knowledge) (version id : ℕ) (time : ℤ) (text : List ℕ) (v : ℕ) → IsFiled w → w.tells ≡ true → Ready w k version id time text
    → (v < length w.records) ⊎ (v ≡ length w.records)
    → IsTrue (is_some (file_of_version w.files v (entry_at (w.records ++ new_entry id time ∷ []) v).id))
kept_again w k version id time text v f tells r (inl below) =
    let P : Entry → Type 0 = λ e. IsTrue (is_some (file_of_version w.files v e.id)) in
    subst P (sym (entry_below w id time v below)) (f.kept v below)
kept_again w k version id time text v f tells r (inr last) =
    let P : Entry → Type 0 = λ e. IsTrue (is_some (file_of_version w.files (length w.records) e.id)) in
    let Q : ℕ → Type 0 = λ n. IsTrue (is_some (file_of_version w.files n (entry_at (w.records ++ new_entry id time ∷ []) n).id)) in
    subst Q (sym last) (subst P (sym (entry_last w id time)) (is_there _ text (new_file w k version id time text f tells r)))

equal_again : (w : WorldData) (id : ℕ) (time : ℤ) (v : ℕ) (p s : List ℕ) → IsFiled w
    → (v < length w.records) ⊎ (v ≡ length w.records)
    → file_at w.files (name.Published v) ≡ Some p → file_at w.files (name.Staged v (entry_at (w.records ++ new_entry id time ∷ []) v).id) ≡ Some s → p ≡ s
equal_again w id time v p s f (inl below) e g =
    let P : Entry → Type 0 = λ d. file_at w.files (name.Staged v d.id) ≡ Some s in
    f.equal v p s below e (subst P (entry_below w id time v below) g)
equal_again w id time v p s f (inr last) e g =
    let P : ℕ → Type 0 = λ n. file_at w.files (name.Published n) ≡ Some p in
    let k : None ≡ Some p = sym (unpublished w f) ∙ subst P last e in cc

time_again : (w : WorldData) (k : Knowledge) (version id : ℕ) (time : ℤ) (text : List ℕ) (v : ℕ) → IsFiled w → Ready w k version id time text → w.tells ≡ true
    → (v < length w.records) ⊎ (v ≡ length w.records)
    → (entry_at (w.records ++ new_entry id time ∷ []) v).time ≡ commit_time (commit_at (log_of w ++ record { id = id; bytes = text } ∷ []) v).bytes
time_again w k version id time text v f r tells (inl below) =
    let far : v < length (log_of w) = let e = length-log_of w in omega (arith, e) in
    ap (λ (e : Entry). e.time) (entry_below w id time v below) ∙ f.times v below
    ∙ ap (λ (c : Commit). commit_time c.bytes) (sym (get_or-append (log_of w) (record { id = id; bytes = text } ∷ []) no_commit v far))
time_again w k version id time text v f r tells (inr last) =
    let where_last : v ≡ length (log_of w) = let e = length-log_of w in omega (arith, e) in
    let P : ℕ → Type 0 = λ n. commit_time text ≡ commit_time (commit_at (log_of w ++ record { id = id; bytes = text } ∷ []) n).bytes in
    let at : commit_time text ≡ commit_time (commit_at (log_of w ++ record { id = id; bytes = text } ∷ []) v).bytes =
    subst P (sym where_last) (ap (λ (c : Commit). commit_time c.bytes) (sym (get_or-append_seam (log_of w) (record { id = id; bytes = text }) [] no_commit))) in
    ap (λ (n : ℕ). (entry_at (w.records ++ new_entry id time ∷ []) n).time) last
    ∙ ap (λ (e : Entry). e.time) (entry_last w id time) ∙ r.timed tells ∙ at

more_records : (w : WorldData) (id : ℕ) (time : ℤ) → length (w.records ++ new_entry id time ∷ []) ≡ length w.records + 1
more_records w id time = length-append w.records (new_entry id time ∷ [])

ratified_filed : (w : WorldData) (k : Knowledge) (version id : ℕ) (time : ℤ) (text : List ℕ) → IsFiled w → w.tells ≡ true → Ready w k version id time text
    → IsFiled (ratified_world w id time)
ratified_filed w k version id time text f tells r =
    let more : length (w.records ++ new_entry id time ∷ []) ≡ length w.records + 1 = more_records w id time in
    let log : log_of (ratified_world w id time) ≡ log_of w ++ record { id = id; bytes = text } ∷ [] =
    log_ratified w id time ∙ ap (λ c. log_of w ++ c ∷ []) (new_commit w k version id time text f tells r) in
    record {
      ratified = λ v there. (let less = f.ratified v there in omega arith);
      leading = f.leading;
      reported = f.reported;
      kept = λ v less. kept_again w k version id time text v f tells r (last_or_below (length w.records) v (omega arith));
      equal = λ v p s less e g. equal_again w id time v p s f (last_or_below (length w.records) v (omega arith)) e g;
      sound = subst IsSound (sym log) (sound-push (log_of w) (record { id = id; bytes = text }) f.sound (r.next tells));
      times = λ v less. time_again w k version id time text v f r tells (last_or_below (length w.records) v (omega arith))
          ∙ ap (λ (l : List Commit). commit_time (commit_at l v).bytes) (sym log);
      checkpoints = f.checkpoints;
    }

ratified_later : (w : WorldData) (id : ℕ) (time : ℤ) → IsLater w (ratified_world w id time)
ratified_later w id time = record {
  limits = refl;
  tells = refl;
  first = refl;
  log = (let P : List Commit → Type 0 = λ l. StartsWith l (log_of w) in subst P (sym (log_ratified w id time)) (starts_more (log_of w) _));
  records = let e = more_records w id time in omega (arith, e);
  reported = le_refl _;
  tally = le_refl _;
  published = λ version there. there;
  checkpoints = λ version i bytes there. there;
  staged = λ version i bytes above there. there;
}

ratified_consistent : (w : WorldData) (k : Knowledge) (version id : ℕ) (time : ℤ) (text : List ℕ) → IsConsistent w
    → IsFree w.limits (length w.records) w.reported version → Ready w k version id time text → IsConsistent (ratified_world w id time)
ratified_consistent w k version id time text con free r = record {
  sized = (let e = more_records w id time in record {
    bounds = con.sized.bounds;
    reported = let s = con.sized.reported in omega (arith, e);
    versions = let s = free.allowed in omega (arith, e);
    unpublished = let s = free.below in omega (arith, e);
  });
  filed = λ tells. ratified_filed w k version id time text (con.filed tells) tells r;
}

ratified_holds : (w : WorldData) (k : Knowledge) (version id : ℕ) (time : ℤ) (text : List ℕ) → HoldsIn (ratified_world w id time) k → Ready w k version id time text
    → HoldsIn (ratified_world w id time) (record k { seen = log_of (ratified_world w id time); mine = k.mine ++ version ∷ [] })
ratified_holds w k version id time text h r =
    let long : length (log_of (ratified_world w id time)) ≡ length w.records + 1 = length-log_of (ratified_world w id time) ∙ more_records w id time in
    let short : length k.seen ≤ length (log_of (ratified_world w id time)) = let s = seen_length (ratified_world w id time) k h in let e = length-log_of (ratified_world w id time) in omega (arith, s, e) in
    record {
      terms = h.terms;
      seen = starts_refl _;
      mine = All-push (λ v. v < length (log_of (ratified_world w id time))) k.mine version (mine_more _ _ k.mine short h.mine) (let e = r.at_end in omega arith);
      told = h.told;
      reported = h.reported;
      within = h.within;
      published = h.published;
      kept = h.kept;
      marks = h.marks;
      marked = h.marked;
      faults = h.faults;
    }

ratified_grown : (w : WorldData) (k : Knowledge) (version id : ℕ) (time : ℤ) → StartsWith (log_of (ratified_world w id time)) k.seen → All (λ v. v < version) k.mine
    → IsGrown k (record k { seen = log_of (ratified_world w id time); mine = k.mine ++ version ∷ [] })
ratified_grown w k version id time s below = record {
  terms = refl;
  seen = s;
  mine = starts_more _ _;
  rising = λ r. all_pairs_push (λ (a b : ℕ). a < b) k.mine version r below;
  told = le_refl _;
  published = le_refl _;
  reported = le_refl _;
  kept = starts_refl _;
  marks = starts_refl _;
  cleared = starts_refl _;
  takens = starts_refl _;
  absents = starts_refl _;
  put = starts_refl _;
  failed = starts_refl _;
  tries = starts_refl _;
  heard = starts_refl _;
  asks = le_refl _;
  lists = le_refl _;
  gets = le_refl _;
  looks = le_refl _;
  faults = le_refl _;
}

outcome-ratified : (w : WorldData) (k : Knowledge) (version id : ℕ) (time : ℤ) (text : List ℕ) → IsConsistent w → HoldsIn w k
    → IsFree w.limits (length w.records) w.reported version → Ready w k version id time text
    → LoneOutcome w (ratified_world w id time) k (record k { seen = log_of (ratified_world w id time); mine = k.mine ++ version ∷ [] })
outcome-ratified w k version id time text con h free r =
    let h2 : HoldsIn (ratified_world w id time) k = holds_later w (ratified_world w id time) k h (ratified_later w id time) in
    record {
      turn = record {
        later = ratified_later w id time;
        consistent = ratified_consistent w k version id time text con free r;
        holds = ratified_holds w k version id time text h2 r;
        grown = ratified_grown w k version id time h2.seen (mine_more (length k.seen) version k.mine (omega (arith, seen_length w k h, r.at_end)) h.mine);
        own = record {
          gained = record { rest = version ∷ []; is = refl };
          new = All-push (λ v. (length w.records ≤ v) × (v < length (w.records ++ new_entry id time ∷ []))) [] version (λ n d less. absurd (omega arith))
              (omega (arith, r.at_end), omega (arith, r.at_end, more_records w id time));
        };
        faults = omega arith;
      };
      seen = λ e. refl;
      tries = λ e. none_lost w (ratified_world w id time) k (record k { seen = log_of (ratified_world w id time); mine = k.mine ++ version ∷ [] }) refl;
      all = let a = more_records w id time in let b = length-append k.mine (version ∷ []) in omega (arith, a, b);
      met = omega arith;
    }

one_text : (o : Option (List ℕ)) (a b : List ℕ) → o ≡ Some a → o ≡ Some b → a ≡ b
one_text o a b e f = let g : Some a ≡ Some b = sym e ∙ f in cc

ratified_learnt : (w : WorldData) (k : Knowledge) (version id : ℕ) (time : ℤ) (text : List ℕ) → IsConsistent w → HoldsIn w k → Ready w k version id time text
    → RatifiedLearnt w.tells k version id (record k { seen = log_of (ratified_world w id time); mine = k.mine ++ version ∷ [] })
ratified_learnt w k version id time text con h r = record {
  same = refl;
  at_end = r.at_end ∙ sym (length-log_of w) ∙ sym (ap length r.seen);
  commit = record {
    text = (commit_of w.files (length w.records) (new_entry id time)).bytes;
    is = log_ratified w id time ∙ ap (λ l. l ++ commit_of w.files (length w.records) (new_entry id time) ∷ []) (sym r.seen);
    known = λ tells b there. one_text _ b text (kept_file w (triple version id b) (let e = r.at_end in omega arith) (All-contains (IsKeptIn w) k.kept (triple version id b) (h.kept tells) there)) (r.file tells)
        ∙ sym (ap (λ (c : Commit). c.bytes) (new_commit w k version id time text (con.filed tells) tells r));
  };
  told = let e = length-log_of (ratified_world w id time) in let f = more_records w id time in let t = h.told in omega (arith, e, f, t);
}

-- refusals: what was seen is the log

seen_holds : (w : WorldData) (k m : Knowledge) → HoldsIn w k → HoldsIn w (record k { seen = log_of w })
seen_holds w k m h = record {
  terms = h.terms;
  seen = starts_refl _;
  mine = mine_more _ _ k.mine (let e = length-log_of w in let s = seen_length w k h in omega (arith, e, s)) h.mine;
  told = h.told;
  reported = h.reported;
  within = h.within;
  published = h.published;
  kept = h.kept;
  marks = h.marks;
  marked = h.marked;
  faults = h.faults;
}

tried_holds : (w : WorldData) (k : Knowledge) (version : ℕ) (answer : Refusal) → HoldsIn w k → HoldsIn w (record k { seen = log_of w; tries = tries_after k version answer })
tried_holds w k version answer h = record {
  terms = h.terms;
  seen = starts_refl _;
  mine = mine_more _ _ k.mine (let e = length-log_of w in let s = seen_length w k h in omega (arith, e, s)) h.mine;
  told = h.told;
  reported = h.reported;
  within = h.within;
  published = h.published;
  kept = h.kept;
  marks = h.marks;
  marked = h.marked;
  faults = h.faults;
}

backlog_holds : (w : WorldData) (k : Knowledge) (version reported : ℕ) → IsConsistent w → HoldsIn w k → reported ≡ w.reported
    → HoldsIn w (record k { seen = log_of w; published = max k.published reported; reported = reported; tries = tries_after k version refusal.Backlog })
backlog_holds w k version reported con h e = record {
  terms = h.terms;
  seen = starts_refl _;
  mine = mine_more _ _ k.mine (let e = length-log_of w in let s = seen_length w k h in omega (arith, e, s)) h.mine;
  told = h.told;
  reported = omega (arith, e);
  within = omega arith;
  published = λ tells v less. published_heard w k reported con h (omega (arith, e)) tells v less;
  kept = h.kept;
  marks = λ tells. marks_more _ _ k.marks (omega arith) (h.marks tells);
  marked = h.marked;
  faults = h.faults;
}

lost_grown : (w : WorldData) (k : Knowledge) (version : ℕ) (answer : Refusal) → HoldsIn w k → IsGrown k (record k { seen = log_of w; tries = tries_after k version answer })
lost_grown w k version answer h = record {
  terms = refl;
  seen = h.seen;
  mine = starts_refl _;
  rising = λ r. r;
  told = le_refl _;
  published = le_refl _;
  reported = le_refl _;
  kept = starts_refl _;
  marks = starts_refl _;
  cleared = starts_refl _;
  takens = starts_refl _;
  absents = starts_refl _;
  put = starts_refl _;
  failed = starts_refl _;
  tries = starts_more _ _;
  heard = starts_refl _;
  asks = le_refl _;
  lists = le_refl _;
  gets = le_refl _;
  looks = le_refl _;
  faults = le_refl _;
}

full_grown : (w : WorldData) (k : Knowledge) → HoldsIn w k → IsGrown k (record k { seen = log_of w })
full_grown w k h = record {
  terms = refl;
  seen = h.seen;
  mine = starts_refl _;
  rising = λ r. r;
  told = le_refl _;
  published = le_refl _;
  reported = le_refl _;
  kept = starts_refl _;
  marks = starts_refl _;
  cleared = starts_refl _;
  takens = starts_refl _;
  absents = starts_refl _;
  put = starts_refl _;
  failed = starts_refl _;
  tries = starts_refl _;
  heard = starts_refl _;
  asks = le_refl _;
  lists = le_refl _;
  gets = le_refl _;
  looks = le_refl _;
  faults = le_refl _;
}

backlog_grown : (w : WorldData) (k : Knowledge) (version reported : ℕ) → HoldsIn w k → reported ≡ w.reported
    → IsGrown k (record k { seen = log_of w; published = max k.published reported; reported = reported; tries = tries_after k version refusal.Backlog })
backlog_grown w k version reported h e = record {
  terms = refl;
  seen = h.seen;
  mine = starts_refl _;
  rising = λ r. r;
  told = le_refl _;
  published = omega arith;
  reported = let s = h.reported in omega (arith, e, s);
  kept = starts_refl _;
  marks = starts_refl _;
  cleared = starts_refl _;
  takens = starts_refl _;
  absents = starts_refl _;
  put = starts_refl _;
  failed = starts_refl _;
  tries = starts_more _ _;
  heard = starts_refl _;
  asks = le_refl _;
  lists = le_refl _;
  gets = le_refl _;
  looks = le_refl _;
  faults = le_refl _;
}

sees_all : (w : WorldData) (k m : Knowledge) → HoldsIn w k → m.seen ≡ log_of w → SeesLog k m
sees_all w k m h e = record {
  front = (let P : List Commit → Type 0 = λ l. StartsWith l k.seen in subst P (sym e) h.seen);
  told = let f = ap length e in let g = length-log_of w in let t = h.told in omega (arith, f, g, t);
}

at_limit : (o : Option Terms) (w : WorldData) (n : ℕ) → IfSome o (λ t. t ≡ terms_of w) → n ≡ w.limits.versions → IfSome o (λ t. n ≡ t.limits.versions)
at_limit None w n e h = tt
at_limit (Some t) w n e h = let P : Terms → Type 0 = λ u. n ≡ u.limits.versions in subst P (sym e) h

at_backlog : (o : Option Terms) (w : WorldData) (n r : ℕ) → IfSome o (λ t. t ≡ terms_of w) → n < w.limits.versions → n ≡ r + w.limits.unpublished
    → IfSome o (λ t. (n < t.limits.versions) × (n ≡ r + t.limits.unpublished))
at_backlog None w n r e h g = tt
at_backlog (Some t) w n r e h g = let P : Terms → Type 0 = λ u. (n < u.limits.versions) × (n ≡ r + u.limits.unpublished) in subst P (sym e) (h, g)

-- a version that is seen already is no try
no_try : (k : Knowledge) (version : ℕ) (answer : Refusal) → version < length k.seen → tries_after k version answer ≡ k.tries
no_try k version answer less = elim (eqb_tells version (length k.seen)) [
  | inl same ↦ absurd (omega (arith, same.1, less))
  | inr other ↦ ap (λ (b : Bool). k.tries ++ cond b ((let t : Try = record { version = version; answer = answer } in t) ∷ []) []) other.0 ∙ append-nil k.tries
]

-- a refused try met the limit of unpublished commits
one_tried : (P : Try → Type 0) (t : Try) (b : Bool) → P t → All P (cond b (t ∷ []) [])
one_tried P t true h = All-push P [] t (λ n d less. absurd (omega arith)) h
one_tried P t false h = λ n d less. absurd (omega arith)

backlog_tries : (w : WorldData) (k : Knowledge) (version latest reported : ℕ) → version ≡ length w.records → IsBacklog w.limits (length w.records) w.reported version latest reported
    → LosesNone w w k (record k { seen = log_of w; published = max k.published reported; reported = reported; tries = tries_after k version refusal.Backlog })
backlog_tries w k version latest reported at b = record {
  gained = record { rest = _; is = refl };
  all = one_tried (MeetsLimit w w) (record { version = version; answer = refusal.Backlog }) _ (record {
    answer = refl;
    allowed = omega (arith, at, b.allowed);
    least = omega (arith, at, b.at_limit);
    most = omega (arith, at, b.at_limit);
  });
}

pub outcome-ratify : (version id : ℕ) (time : ℤ) (w x : WorldData) (k : Knowledge) (r : Result Ratify StepFault) → IsConsistent w → HoldsIn w k
    → MayRatify w.tells k version id time → RatifyTurn version id time w r x → LoneOutcome w x k (ratify_learned version k r x)
outcome-ratify version id time w x k (Ok ratify.Done) con h m t =
    let P : WorldData → Type 0 = λ y. LoneOutcome w y k (ratify_learned version k (Ok ratify.Done) y) in
    let free : IsFree w.limits (length w.records) w.reported version = t.answer in
    subst P (sym t.after) (outcome-ratified w k version id time m.bytes con h free (ready w k version id time h m free.next))
outcome-ratify version id time w x k (Ok (ratify.Lost latest)) con h m t =
    let P : WorldData → Type 0 = λ y. LoneOutcome w y k (ratify_learned version k (Ok (ratify.Lost latest)) y) in
    let lost : IsLost (length w.records) version latest = t.answer in
    subst P (sym t.after)
    (outcome-still w k _ con (tried_holds w k version refusal.Lost h) (lost_grown w k version refusal.Lost h) refl refl (λ e. refl)
    (λ e. none_lost w w k _ (no_try k version refusal.Lost (omega (arith, lost.below, ap length e, length-log_of w)))))
outcome-ratify version id time w x k (Ok (ratify.Full latest)) con h m t =
    let P : WorldData → Type 0 = λ y. LoneOutcome w y k (ratify_learned version k (Ok (ratify.Full latest)) y) in
    subst P (sym t.after) (outcome-quiet w k _ con (seen_holds w k k h) (full_grown w k h) refl refl (λ e. refl) refl)
outcome-ratify version id time w x k (Ok (ratify.Backlog latest reported)) con h m t =
    let P : WorldData → Type 0 = λ y. LoneOutcome w y k (ratify_learned version k (Ok (ratify.Backlog latest reported)) y) in
    let b : IsBacklog w.limits (length w.records) w.reported version latest reported = t.answer in
    let at : version ≡ length w.records = omega (arith, m.below, seen_length w k h, b.next) in
    subst P (sym t.after)
    (outcome-still w k _ con (backlog_holds w k version reported con h b.told) (backlog_grown w k version reported h b.told) refl refl (λ e. refl)
    (λ e. backlog_tries w k version latest reported at b))
outcome-ratify version id time w x k (Err Memory) con h m t =
    let P : WorldData → Type 0 = λ y. LoneOutcome w y k k in
    subst P (sym t) (outcome-refused w k con h)
outcome-ratify version id time w x k (Err (Fault at)) con h m t = absurd t

lost_learnt : (w : WorldData) (k : Knowledge) (version latest : ℕ) → HoldsIn w k → IsLost (length w.records) version latest
    → LostLearnt k version latest (record k { seen = log_of w; tries = tries_after k version refusal.Lost })
lost_learnt w k version latest h a = record {
  same = refl;
  sees = sees_all w k _ h refl;
  last = a.last ∙ sym (length-log_of w);
  below = let b = a.below in let c = a.last in omega arith;
}

full_learnt : (w : WorldData) (k : Knowledge) (version latest : ℕ) → HoldsIn w k → version ≤ length k.seen → IsFull w.limits (length w.records) version latest
    → FullLearnt k version latest (record k { seen = log_of w })
full_learnt w k version latest h short a = record {
  same = refl;
  sees = sees_all w k _ h refl;
  last = a.last ∙ sym (length-log_of w);
  next = let e = length-log_of w in let s = seen_length w k h in let n = a.next in omega (arith, e, s, n);
  limit = at_limit k.terms w _ h.terms (length-log_of w ∙ a.at_limit);
}

backlog_learnt : (w : WorldData) (k : Knowledge) (version latest reported : ℕ) → HoldsIn w k → version ≤ length k.seen → IsBacklog w.limits (length w.records) w.reported version latest reported
    → BacklogLearnt k version latest reported (record k { seen = log_of w; published = max k.published reported; reported = reported; tries = tries_after k version refusal.Backlog })
backlog_learnt w k version latest reported h short a = record {
  same = refl;
  sees = sees_all w k _ h refl;
  last = a.last ∙ sym (length-log_of w);
  next = let e = length-log_of w in let s = seen_length w k h in let n = a.next in omega (arith, e, s, n);
  limit = at_backlog k.terms w _ reported h.terms (let e = length-log_of w in let n = a.allowed in omega (arith, e, n)) (let e = length-log_of w in let n = a.at_limit in let t = a.told in omega (arith, e, n, t));
  rises = let s = h.reported in let t = a.told in omega (arith, s, t);
  published_before = omega arith;
  published = omega arith;
}

pub learns-ratify : (version id : ℕ) (time : ℤ) (w x : WorldData) (k : Knowledge) (r : Result Ratify StepFault) → IsConsistent w → HoldsIn w k
    → MayRatify w.tells k version id time → RatifyTurn version id time w r x → LearnsRatify w.tells version id k r (ratify_learned version k r x)
learns-ratify version id time w x k (Ok ratify.Done) con h m t =
    let P : WorldData → Type 0 = λ y. LearnsRatify w.tells version id k (Ok ratify.Done) (ratify_learned version k (Ok ratify.Done) y) in
    let free : IsFree w.limits (length w.records) w.reported version = t.answer in
    subst P (sym t.after) (ratified_learnt w k version id time m.bytes con h (ready w k version id time h m free.next))
learns-ratify version id time w x k (Ok (ratify.Lost latest)) con h m t =
    let P : WorldData → Type 0 = λ y. LearnsRatify w.tells version id k (Ok (ratify.Lost latest)) (ratify_learned version k (Ok (ratify.Lost latest)) y) in
    subst P (sym t.after) (lost_learnt w k version latest h t.answer)
learns-ratify version id time w x k (Ok (ratify.Full latest)) con h m t =
    let P : WorldData → Type 0 = λ y. LearnsRatify w.tells version id k (Ok (ratify.Full latest)) (ratify_learned version k (Ok (ratify.Full latest)) y) in
    subst P (sym t.after) (full_learnt w k version latest h m.below t.answer)
learns-ratify version id time w x k (Ok (ratify.Backlog latest reported)) con h m t =
    let P : WorldData → Type 0 = λ y. LearnsRatify w.tells version id k (Ok (ratify.Backlog latest reported)) (ratify_learned version k (Ok (ratify.Backlog latest reported)) y) in
    subst P (sym t.after) (backlog_learnt w k version latest reported h m.below t.answer)
learns-ratify version id time w x k (Err Memory) con h m t = refl
learns-ratify version id time w x k (Err (Fault at)) con h m t = absurd t
