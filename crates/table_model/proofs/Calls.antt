-- The turns that stage, publish, report and clear.
use Rattle.std.proofs.Common.{◌≡◌, ◌≢◌, ◌<◌, ◌≤◌, ◌+◌, ◌^◌, ◌⊎◌, inl, inr, ℕ, zero, suc, Bool, true, false, cond, List, [], ◌∷◌, ◌++◌, length, take, drop, refl, sym, ◌∙◌, ap, subst, arith, rules, Option, Some, None, IsTrue, length-append, append-nil, max, unwrap_or}
use Rattle.std.specs.Prelude.{All, Contains, IfSome, is_some, Result, Ok, Err, ℤ, slice_index_or}
use Rattle.std.proofs.lemmas.List.Elements.{All-weaker, All-push, All-append, All-contains, Contains-push}
use Rattle.std.proofs.lemmas.Bool.Decides.{eqb_tells}
use Rattle.log_names.specs.declared.LogName.{LogName}
use Rattle.log_names.specs.declared.LogName.TheVariants as name
use Rattle.log_names.specs.Texts.{name_text, published_text, staged_text, checkpoint_text}
use Rattle.commit_catalog.specs.declared.Entry.{Entry}
use Rattle.object_store.specs.Files.{Files}
use Rattle.table_model.specs.declared.answers.Spot.{Spot}
use Rattle.table_model.specs.declared.known.Mark.{Mark}
use Rattle.table_model.specs.Log.{Commit, commit_at, commit_time, no_commit, IsNextCommit, IsSound}
use Rattle.table_model.specs.Files.{fits, file_at, put_at, drop_at, stands_at}
use Rattle.table_model.specs.World.{WorldData, stands, log_of, entry_at, no_entry, commit_of, commits_from, file_of_version, either_file, told_put, told_drop}
use Rattle.table_model.specs.Consistency.{IsSized, IsFiled, IsConsistent}
use Rattle.table_model.specs.Turns.{IsInDoubt, IsRatifiedUnder, after_put}
use Rattle.table_model.specs.Knowledge.{Knowledge, Terms, Triple, StartsWith, IsGrown}
use Rattle.table_model.specs.Holding.{HoldsIn, IsLater, IsKeptIn, terms_of}
use Rattle.table_model.specs.Conditions.{triple, MayRatify, MayPublish, MayReport, MayClear}
use Rattle.table_model.specs.Learning.{fault_noted}
use Rattle.table_model.specs.Alone.{LoneOutcome}
use Rattle.table_model.proofs.FileLaws.{fits_published, fits_staged, file_at-put_at, file_at-put_at_other, file_at-drop_at, file_at-drop_at_other}
use Rattle.table_model.proofs.Growing.{starts_refl, starts_more, starts_trans, le_refl, le_trans, grows_refl}
use Rattle.table_model.proofs.Logs.{commits_from-same, commits_from-append}
use Rattle.table_model.proofs.Worlds.{same_own, later_refl, later_trans, later_tally, consistent_tally, holds_later, below_or_above, bytes_of, is_there}
use Rattle.table_model.proofs.Knowing.{seen_length, length-log_of, seen_commit, all_seen, log_commit, commit_file}
use Rattle.table_model.proofs.Outcomes.{none_lost, outcome-quiet, outcome-refused, outcome-failed, same_log_of, below_max, marks_more, mine_more}
use Rattle.object_store.specs.declared.store.Put.{Put}
use Rattle.object_store.specs.declared.store.Put.TheVariants as put
use Rattle.object_store.specs.declared.store.Gone.{Gone}
use Rattle.object_store.specs.declared.store.Gone.TheVariants as gone
use Rattle.table_model.specs.declared.answers.Staged.{Staged}
use Rattle.table_model.specs.declared.answers.Staged.TheVariants as staged
use Rattle.table_model.specs.declared.answers.StepFault.{StepFault}
use Rattle.table_model.specs.declared.answers.StepFault.TheVariants.{Fault, Memory}
use Rattle.table_model.specs.declared.known.Clearing.{Clearing}
use Rattle.table_model.specs.Turns.{StageTurn, StagesNew, FindsStagedName, FailsToStage, PublishTurn, PutsNew, FindsThere, ReportTurn, Reports, ClearTurn, Deletes, FindsAbsent}
use Rattle.table_model.specs.Learning.{LearnsStage, LearnsPublish, LearnsReport, LearnsClear}
use Rattle.table_model.specs.Learned.{stage_learned, publish_learned, report_learned, clear_learned}
use Rattle.table_model.proofs.Sound.{last_or_below}
use Rattle.table_model.proofs.Changing.{Change, change-none, change-stage, change-publish, change-clear, IsDueText}

-- a change of the files, and what is known after it
outcome-changed : (w y : WorldData) (k m : Knowledge) → Change w y → HoldsIn y m → IsGrown k m → m.mine ≡ k.mine → m.faults ≡ k.faults → m.seen ≡ k.seen → m.tries ≡ k.tries → LoneOutcome w y k m
outcome-changed w y k m c h g mine faults seen tries = record {
  turn = record {
    later = c.later;
    consistent = c.consistent;
    holds = h;
    grown = g;
    own = same_own w y k m mine;
    faults = let e = c.tally in omega (arith, faults, e);
  };
  seen = λ e. seen ∙ e ∙ sym (same_log_of w y c.later c.records);
  tries = λ e. none_lost w y k m tries;
  all = ap (λ (es : List Entry). length es + length k.mine) c.records ∙ ap (λ (vs : List ℕ). length w.records + length vs) (sym mine);
  met = let e = c.tally in omega (arith, faults, e);
}

-- a change in doubt
outcome-doubt : (w y x : WorldData) (k : Knowledge) (at : Spot) → IsConsistent w → HoldsIn w k → Change w y → IsInDoubt w y x → LoneOutcome w x k (fault_noted at k)
outcome-doubt w y x k at con h c d =
    let P : WorldData → Type 0 = λ z. LoneOutcome w z k (fault_noted at k) in
    elim d.files [
      | inl same ↦ subst P (sym same) (outcome-failed w w x.tally k at con h (later_refl w) refl refl d.rose)
      | inr done ↦ subst P (sym done) (outcome-failed w y x.tally k at c.consistent h c.later c.tally c.records d.rose)
    ]

-- a file that was put only where it did not stand
put_case : (w y : WorldData) (b : Bool) → IsConsistent w → (b ≡ false → Change w y) → Change w (cond b w y)
put_case w y true con c = change-none w con
put_case w y false con c = c refl

-- staging

staged_holds : (w y : WorldData) (k : Knowledge) (version id : ℕ) (text : List ℕ) → HoldsIn y k → (IsTrue y.tells → file_at y.files (name.Staged version id) ≡ Some text)
    → HoldsIn y (record k { kept = k.kept ++ triple version id text ∷ []; put = k.put ++ name.Staged version id ∷ [] })
staged_holds w y k version id text h there = record {
  terms = h.terms;
  seen = h.seen;
  mine = h.mine;
  told = h.told;
  reported = h.reported;
  within = h.within;
  published = h.published;
  kept = λ tells. All-push (IsKeptIn y) k.kept (triple version id text) (h.kept tells) (inr (there tells));
  marks = h.marks;
  marked = h.marked;
  faults = h.faults;
}

staged_grown : (k : Knowledge) (version id : ℕ) (text : List ℕ)
    → IsGrown k (record k { kept = k.kept ++ triple version id text ∷ []; put = k.put ++ name.Staged version id ∷ [] })
staged_grown k version id text = record {
  terms = refl;
  seen = starts_refl _;
  mine = starts_refl _;
  rising = λ r. r;
  told = le_refl _;
  published = le_refl _;
  reported = le_refl _;
  kept = starts_more _ _;
  marks = starts_refl _;
  cleared = starts_refl _;
  takens = starts_refl _;
  absents = starts_refl _;
  put = starts_more _ _;
  failed = starts_refl _;
  tries = starts_refl _;
  heard = starts_refl _;
  asks = le_refl _;
  lists = le_refl _;
  gets = le_refl _;
  looks = le_refl _;
  faults = le_refl _;
}

staged_file : (w : WorldData) (version id : ℕ) (text : List ℕ) → version < 2 ^ 64 → id < 2 ^ 128 → IsTrue w.tells
    → file_at (told_put w (name.Staged version id) text).files (name.Staged version id) ≡ Some text
staged_file w version id text small tiny tells =
    ap (λ (b : Bool). file_at (cond b (put_at w.files (name.Staged version id) text) w.files) (name.Staged version id)) tells
    ∙ file_at-put_at w.files (name.Staged version id) (staged_text version id) text (fits_staged version id small tiny) refl

taken_holds : (w : WorldData) (k : Knowledge) (n : LogName) → HoldsIn w k → HoldsIn w (record k { takens = k.takens ++ n ∷ [] })
taken_holds w k n h = record {
  terms = h.terms;
  seen = h.seen;
  mine = h.mine;
  told = h.told;
  reported = h.reported;
  within = h.within;
  published = h.published;
  kept = h.kept;
  marks = h.marks;
  marked = h.marked;
  faults = h.faults;
}

taken_grown : (k : Knowledge) (n : LogName) → IsGrown k (record k { takens = k.takens ++ n ∷ [] })
taken_grown k n = record {
  terms = refl;
  seen = starts_refl _;
  mine = starts_refl _;
  rising = λ r. r;
  told = le_refl _;
  published = le_refl _;
  reported = le_refl _;
  kept = starts_refl _;
  marks = starts_refl _;
  cleared = starts_refl _;
  takens = starts_more _ _;
  absents = starts_refl _;
  put = starts_refl _;
  failed = starts_refl _;
  tries = starts_refl _;
  heard = starts_refl _;
  asks = le_refl _;
  lists = le_refl _;
  gets = le_refl _;
  looks = le_refl _;
  faults = le_refl _;
}

put_holds : (w : WorldData) (k : Knowledge) (n : LogName) → HoldsIn w k → HoldsIn w (record k { put = k.put ++ n ∷ [] })
put_holds w k n h = record {
  terms = h.terms;
  seen = h.seen;
  mine = h.mine;
  told = h.told;
  reported = h.reported;
  within = h.within;
  published = h.published;
  kept = h.kept;
  marks = h.marks;
  marked = h.marked;
  faults = h.faults;
}

put_grown : (k m : Knowledge) (n : LogName) → IsGrown k m → IsGrown k (record m { put = m.put ++ n ∷ [] })
put_grown k m n g = record {
  terms = g.terms;
  seen = g.seen;
  mine = g.mine;
  rising = g.rising;
  told = g.told;
  published = g.published;
  reported = g.reported;
  kept = g.kept;
  marks = g.marks;
  cleared = g.cleared;
  takens = g.takens;
  absents = g.absents;
  put = starts_trans g.put (starts_more _ _);
  failed = g.failed;
  tries = g.tries;
  heard = g.heard;
  asks = g.asks;
  lists = g.lists;
  gets = g.gets;
  looks = g.looks;
  faults = g.faults;
}

-- whatever was noted, a name that may have been put is noted too
outcome-put : (w x : WorldData) (k m : Knowledge) (n : LogName) → LoneOutcome w x k m → LoneOutcome w x k (record m { put = m.put ++ n ∷ [] })
outcome-put w x k m n o = record {
  turn = record {
    later = o.turn.later;
    consistent = o.turn.consistent;
    holds = put_holds x m n o.turn.holds;
    grown = put_grown k m n o.turn.grown;
    own = record { gained = o.turn.own.gained; new = o.turn.own.new };
    faults = o.turn.faults;
  };
  seen = o.seen;
  tries = λ e. (let l = o.tries e in record { gained = l.gained; all = l.all });
  all = o.all;
  met = o.met;
}

pub outcome-stage : (version id : ℕ) (text : List ℕ) (w x : WorldData) (k : Knowledge) (r : Result Staged StepFault) → IsConsistent w → HoldsIn w k
    → version < 2 ^ 64 → id < 2 ^ 128 → StageTurn version id text w r x → LoneOutcome w x k (stage_learned version id text k r)
outcome-stage version id text w x k (Ok staged.Done) con h small tiny t =
    let y : WorldData = told_put w (name.Staged version id) text in
    let P : WorldData → Type 0 = λ z. LoneOutcome w z k (stage_learned version id text k (Ok staged.Done)) in
    let c : Change w y = change-stage w version id text con small tiny t.absent t.unratified in
    subst P (sym t.done) (outcome-changed w y k _ c
    (staged_holds w y k version id text (holds_later w y k h c.later) (λ tells. staged_file w version id text small tiny tells))
    (staged_grown k version id text) refl refl refl refl)
outcome-stage version id text w x k (Ok staged.Taken) con h small tiny t =
    let P : WorldData → Type 0 = λ z. LoneOutcome w z k (stage_learned version id text k (Ok staged.Taken)) in
    subst P (sym t.same) (outcome-quiet w k _ con (taken_holds w k _ h) (taken_grown k _) refl refl (λ e. e) refl)
outcome-stage version id text w x k (Err Memory) con h small tiny t =
    let P : WorldData → Type 0 = λ z. LoneOutcome w z k k in subst P (sym t) (outcome-refused w k con h)
outcome-stage version id text w x k (Err (Fault at)) con h small tiny t =
    let n : LogName = name.Staged version id in
    let c : Change w (after_put w n text) = put_case w (told_put w n text) _ con (λ absent. change-stage w version id text con small tiny (λ tells. absent) t.1.unratified) in
    outcome-put w x k _ n (outcome-doubt w (after_put w n text) x k at con h c t.1.doubt)

pub learns-stage : (version id : ℕ) (text : List ℕ) (w x : WorldData) (k : Knowledge) (r : Result Staged StepFault) → StageTurn version id text w r x
    → LearnsStage version id text k r (stage_learned version id text k r)
learns-stage version id text w x k (Ok staged.Done) t = refl
learns-stage version id text w x k (Ok staged.Taken) t = refl
learns-stage version id text w x k (Err Memory) t = refl
learns-stage version id text w x k (Err (Fault at)) t = (t.0, refl)

-- publishing

due_text : (w : WorldData) (k : Knowledge) (version : ℕ) (text : List ℕ) → HoldsIn w k → MayPublish w.tells k version text → IsTrue w.tells → IsDueText w k version text
due_text w k version text h m tells = record {
  far = let s = seen_length w k h in let f = m.known in omega arith;
  is = m.text_is tells ∙ ap (λ (c : Commit). c.bytes) (seen_commit w k h version m.known);
  below = λ v less. h.published tells v (let b = m.below in omega arith);
}

published_holds : (y : WorldData) (k : Knowledge) (version : ℕ) → HoldsIn y k → version ≤ k.published → (IsTrue y.tells → IsTrue (stands y (name.Published version)))
    → HoldsIn y (record k { published = max k.published (version + 1) })
published_holds y k version h below there = record {
  terms = h.terms;
  seen = h.seen;
  mine = h.mine;
  told = h.told;
  reported = h.reported;
  within = let s = h.within in omega arith;
  published = λ tells v less. elim (below_max v k.published (version + 1) less) [
    | inl old ↦ h.published tells v old
    | inr new ↦ elim (last_or_below version v new) [
      | inl under ↦ h.published tells v (omega arith)
      | inr last ↦ (let P : ℕ → Type 0 = λ n. IsTrue (stands y (name.Published n)) in subst P (sym last) (there tells))
    ]
  ];
  kept = h.kept;
  marks = λ tells. marks_more _ _ k.marks (omega arith) (h.marks tells);
  marked = h.marked;
  faults = h.faults;
}

published_grown : (k : Knowledge) (n : ℕ) → k.published ≤ n → IsGrown k (record k { published = n })
published_grown k n le = record {
  terms = refl;
  seen = starts_refl _;
  mine = starts_refl _;
  rising = λ r. r;
  told = le_refl _;
  published = le;
  reported = le_refl _;
  kept = starts_refl _;
  marks = starts_refl _;
  cleared = starts_refl _;
  takens = starts_refl _;
  absents = starts_refl _;
  put = starts_refl _;
  failed = starts_refl _;
  tries = starts_refl _;
  heard = starts_refl _;
  asks = le_refl _;
  lists = le_refl _;
  gets = le_refl _;
  looks = le_refl _;
  faults = le_refl _;
}

published_file : (w : WorldData) (version : ℕ) (text : List ℕ) → version < 2 ^ 64 → IsTrue w.tells
    → IsTrue (stands (told_put w (name.Published version) text) (name.Published version))
published_file w version text small tells =
    is_there _ text (ap (λ (b : Bool). file_at (cond b (put_at w.files (name.Published version) text) w.files) (name.Published version)) tells
    ∙ file_at-put_at w.files (name.Published version) (published_text version) text (fits_published version small) refl)

pub outcome-publish : (version : ℕ) (text : List ℕ) (w x : WorldData) (k : Knowledge) (r : Result Put StepFault) → IsConsistent w → HoldsIn w k
    → version < 2 ^ 64 → MayPublish w.tells k version text → PublishTurn version text w r x → LoneOutcome w x k (publish_learned version k r)
outcome-publish version text w x k (Ok put.Done) con h small m t =
    let y : WorldData = told_put w (name.Published version) text in
    let P : WorldData → Type 0 = λ z. LoneOutcome w z k (publish_learned version k (Ok put.Done)) in
    let c : Change w y = change-publish w k version text con small t.absent (due_text w k version text h m) in
    subst P (sym t.done) (outcome-changed w y k _ c
    (published_holds y k version (holds_later w y k h c.later) m.below (λ tells. published_file w version text small tells))
    (published_grown k _ (omega arith)) refl refl refl refl)
outcome-publish version text w x k (Ok put.There) con h small m t =
    let P : WorldData → Type 0 = λ z. LoneOutcome w z k (publish_learned version k (Ok put.There)) in
    subst P (sym t.same) (outcome-quiet w k _ con (published_holds w k version h m.below t.there) (published_grown k _ (omega arith)) refl refl (λ e. e) refl)
outcome-publish version text w x k (Err Memory) con h small m t =
    let P : WorldData → Type 0 = λ z. LoneOutcome w z k k in subst P (sym t) (outcome-refused w k con h)
outcome-publish version text w x k (Err (Fault at)) con h small m t =
    let n : LogName = name.Published version in
    let c : Change w (after_put w n text) = put_case w (told_put w n text) _ con (λ absent. change-publish w k version text con small (λ tells. absent) (due_text w k version text h m)) in
    outcome-doubt w (after_put w n text) x k at con h c t.1

pub learns-publish : (version : ℕ) (text : List ℕ) (w x : WorldData) (k : Knowledge) (r : Result Put StepFault) → PublishTurn version text w r x
    → LearnsPublish version k r (publish_learned version k r)
learns-publish version text w x k (Ok put.Done) t = record { same = refl; published_before = omega arith; published = omega arith }
learns-publish version text w x k (Ok put.There) t = record { same = refl; published_before = omega arith; published = omega arith }
learns-publish version text w x k (Err Memory) t = refl
learns-publish version text w x k (Err (Fault at)) t = (t.0, refl)

-- reporting

abbrev reported_world : WorldData → ℕ → WorldData
reported_world w n = record w { reported = n }

reported_filed : (w : WorldData) (k : Knowledge) (count n : ℕ) → IsFiled w → IsTrue w.tells → HoldsIn w k → MayReport k count → n ≡ max w.reported count → IsFiled (reported_world w n)
reported_filed w k count n f tells h m e = record {
  ratified = f.ratified;
  leading = f.leading;
  reported = λ v less. elim (below_max v w.reported count (omega (arith, e))) [
    | inl old ↦ f.reported v old
    | inr new ↦ h.published tells v (let p = m.published in omega arith)
  ];
  kept = f.kept;
  equal = f.equal;
  sound = f.sound;
  times = f.times;
  checkpoints = f.checkpoints;
}

reported_later : (w : WorldData) (n : ℕ) → w.reported ≤ n → IsLater w (reported_world w n)
reported_later w n le = record {
  limits = refl;
  tells = refl;
  first = refl;
  log = starts_refl _;
  records = le_refl _;
  reported = le;
  tally = le_refl _;
  published = λ version there. there;
  checkpoints = λ version i bytes there. there;
  staged = λ version i bytes above there. there;
}

reported_consistent : (w : WorldData) (k : Knowledge) (count n : ℕ) → IsConsistent w → HoldsIn w k → MayReport k count → n ≡ max w.reported count → IsConsistent (reported_world w n)
reported_consistent w k count n con h m e = record {
  sized = record {
    bounds = con.sized.bounds;
    reported = let s = con.sized.reported in let l = seen_length w k h in let b = m.known in omega (arith, e, s, l, b);
    versions = con.sized.versions;
    unpublished = let s = con.sized.unpublished in omega (arith, e, s);
  };
  filed = λ tells. reported_filed w k count n (con.filed tells) tells h m e;
}

reported_holds : (w : WorldData) (k : Knowledge) (count n : ℕ) → IsConsistent w → HoldsIn w k → HoldsIn (reported_world w n) k → MayReport k count → n ≡ max w.reported count
    → HoldsIn (reported_world w n) (record k { published = max k.published n; reported = n })
reported_holds w k count n con old h m e = record {
  terms = h.terms;
  seen = h.seen;
  mine = h.mine;
  told = h.told;
  reported = le_refl _;
  within = omega arith;
  published = λ tells v less. elim (below_max v k.published n less) [
    | inl known ↦ h.published tells v known
    | inr new ↦ elim (below_max v w.reported count (omega (arith, e, new))) [
      | inl said ↦ (con.filed tells).reported v said
      | inr now ↦ old.published tells v (let p = m.published in omega arith)
    ]
  ];
  kept = h.kept;
  marks = λ tells. marks_more _ _ k.marks (omega arith) (h.marks tells);
  marked = h.marked;
  faults = h.faults;
}

reported_grown : (w : WorldData) (k : Knowledge) (count n : ℕ) → HoldsIn w k → n ≡ max w.reported count → IsGrown k (record k { published = max k.published n; reported = n })
reported_grown w k count n h e = record {
  terms = refl;
  seen = starts_refl _;
  mine = starts_refl _;
  rising = λ r. r;
  told = le_refl _;
  published = omega arith;
  reported = let s = h.reported in omega (arith, e, s);
  kept = starts_refl _;
  marks = starts_refl _;
  cleared = starts_refl _;
  takens = starts_refl _;
  absents = starts_refl _;
  put = starts_refl _;
  failed = starts_refl _;
  tries = starts_refl _;
  heard = starts_refl _;
  asks = le_refl _;
  lists = le_refl _;
  gets = le_refl _;
  looks = le_refl _;
  faults = le_refl _;
}

pub outcome-report : (count : ℕ) (w x : WorldData) (k : Knowledge) (r : Result ℕ StepFault) → IsConsistent w → HoldsIn w k → MayReport k count → ReportTurn count w r x
    → LoneOutcome w x k (report_learned k r)
outcome-report count w x k (Ok n) con h m t =
    let P : WorldData → Type 0 = λ y. LoneOutcome w y k (report_learned k (Ok n)) in
    let e : n ≡ max w.reported count = t.larger in
    let later : IsLater w (reported_world w n) = reported_later w n (omega (arith, e)) in
    subst P (sym t.after) (record {
      turn = record {
        later = later;
        consistent = reported_consistent w k count n con h m e;
        holds = reported_holds w k count n con h (holds_later w (reported_world w n) k h later) m e;
        grown = reported_grown w k count n h e;
        own = same_own w (reported_world w n) k (record k { published = max k.published n; reported = n }) refl;
        faults = omega arith;
      };
      seen = λ seen. seen;
      tries = λ seen. none_lost w (reported_world w n) k (record k { published = max k.published n; reported = n }) refl;
      all = refl;
      met = omega arith;
    })
outcome-report count w x k (Err Memory) con h m t =
    let P : WorldData → Type 0 = λ y. LoneOutcome w y k k in subst P (sym t) (outcome-refused w k con h)
outcome-report count w x k (Err (Fault at)) con h m t = absurd t

pub learns-report : (count : ℕ) (w x : WorldData) (k : Knowledge) (r : Result ℕ StepFault) → HoldsIn w k → ReportTurn count w r x
    → LearnsReport count k r (report_learned k r)
learns-report count w x k (Ok n) h t =
    let e : n ≡ max w.reported count = t.larger in
    record {
      same = refl;
      least = omega (arith, e);
      rises = let s = h.reported in omega (arith, e, s);
      published_before = omega arith;
      published = omega arith;
    }
learns-report count w x k (Err Memory) h t = refl
learns-report count w x k (Err (Fault at)) h t = absurd t

-- clearing

cleared_holds : (y : WorldData) (k : Knowledge) (c : Clearing) → HoldsIn y k → HoldsIn y (record k { cleared = k.cleared ++ c ∷ [] })
cleared_holds y k c h = record {
  terms = h.terms;
  seen = h.seen;
  mine = h.mine;
  told = h.told;
  reported = h.reported;
  within = h.within;
  published = h.published;
  kept = h.kept;
  marks = h.marks;
  marked = h.marked;
  faults = h.faults;
}

cleared_grown : (k : Knowledge) (c : Clearing) → IsGrown k (record k { cleared = k.cleared ++ c ∷ [] })
cleared_grown k c = record {
  terms = refl;
  seen = starts_refl _;
  mine = starts_refl _;
  rising = λ r. r;
  told = le_refl _;
  published = le_refl _;
  reported = le_refl _;
  kept = starts_refl _;
  marks = starts_refl _;
  cleared = starts_more _ _;
  takens = starts_refl _;
  absents = starts_refl _;
  put = starts_refl _;
  failed = starts_refl _;
  tries = starts_refl _;
  heard = starts_refl _;
  asks = le_refl _;
  lists = le_refl _;
  gets = le_refl _;
  looks = le_refl _;
  faults = le_refl _;
}

pub outcome-clear : (version id : ℕ) (w x : WorldData) (k : Knowledge) (r : Result Gone StepFault) → IsConsistent w → HoldsIn w k
    → version < 2 ^ 64 → id < 2 ^ 128 → MayClear k version → ClearTurn version id w r x → LoneOutcome w x k (clear_learned version id k r)
outcome-clear version id w x k (Ok gone.Done) con h small tiny m t =
    let y : WorldData = told_drop w (name.Staged version id) in
    let P : WorldData → Type 0 = λ z. LoneOutcome w z k (clear_learned version id k (Ok gone.Done)) in
    let c : Change w y = change-clear w version id con small tiny (let s = h.reported in omega arith) in
    subst P (sym t.done) (outcome-changed w y k _ c (cleared_holds y k _ (holds_later w y k h c.later)) (cleared_grown k _) refl refl refl refl)
outcome-clear version id w x k (Ok gone.Absent) con h small tiny m t =
    let P : WorldData → Type 0 = λ z. LoneOutcome w z k (clear_learned version id k (Ok gone.Absent)) in
    subst P (sym t.same) (outcome-quiet w k _ con (cleared_holds w k _ h) (cleared_grown k _) refl refl (λ e. e) refl)
outcome-clear version id w x k (Err Memory) con h small tiny m t =
    let P : WorldData → Type 0 = λ z. LoneOutcome w z k k in subst P (sym t) (outcome-refused w k con h)
outcome-clear version id w x k (Err (Fault at)) con h small tiny m t =
    outcome-doubt w (told_drop w (name.Staged version id)) x k at con h (change-clear w version id con small tiny (let s = h.reported in omega arith)) t.1

pub learns-clear : (version id : ℕ) (w x : WorldData) (k : Knowledge) (r : Result Gone StepFault) → ClearTurn version id w r x
    → LearnsClear version id k r (clear_learned version id k r)
learns-clear version id w x k (Ok gone.Done) t = refl
learns-clear version id w x k (Ok gone.Absent) t = refl
learns-clear version id w x k (Err Memory) t = refl
learns-clear version id w x k (Err (Fault at)) t = (t.0, refl)
