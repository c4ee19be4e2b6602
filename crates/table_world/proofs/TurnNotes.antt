-- What the one caller of a world knows after a turn.
use Rattle.std.proofs.Common.{◌≡◌, ◌<◌, ◌≤◌, ◌+◌, inl, inr, ℕ, Bool, true, false, List, [], ◌∷◌, ◌++◌, length, take, refl, sym, ◌∙◌, ap, subst, arith, Some, IsTrue, max}
use Rattle.std.specs.Prelude.{Result, Ok, Err, ℤ, ◌==◌, ◌&&◌}
use Rattle.std.proofs.lemmas.List.{take-append-le, take_all, length-take}
use Rattle.log_names.specs.declared.LogName.{LogName}
use Rattle.log_names.specs.declared.LogName.TheVariants as name
use Rattle.commit_catalog.specs.declared.Ratify.{Ratify}
use Rattle.commit_catalog.specs.declared.Ratify.TheVariants as ratify
use Rattle.table_model.specs.declared.known.Refusal.TheVariants as refusal
use Rattle.object_store.specs.declared.store.Bytes.{Bytes}
use Rattle.object_store.specs.declared.store.Bytes.TheVariants as bytes
use Rattle.table_model.specs.World.{WorldData, log_of}
use Rattle.table_model.specs.Log.{Commit, commit_at}
use Rattle.table_model.specs.Consistency.{IsConsistent}
use Rattle.table_model.specs.Knowledge.{Knowledge, Terms, IsGrown, IsValid, newcomer, at_start}
use Rattle.table_model.specs.Holding.{HoldsIn, IsLater, terms_of}
use Rattle.std.proofs.Common.{◌^◌}
use Rattle.std.specs.Prelude.{Vec}
use Rattle.std.proofs.lemmas.List.{get_or-take}
use Rattle.std.proofs.lemmas.Bool.{lt-ltb, eq-eqb}
use Rattle.std.proofs.lemmas.Bool.Decides.{eqb_tells}
use Rattle.table_model.specs.Log.{no_commit}
use Rattle.table_model.specs.World.{entry_at}
use Rattle.table_model.specs.Turns.{IsRefused}
use Rattle.table_model.specs.Learning.{IsOnlyMemory}
use Rattle.table_model.proofs.Knowing.{log_commit}
use Rattle.table_world.specs.Worlds.{IsRecordedUnder}
use Rattle.std.specs.declared.alloc.Global.{Global}
use Rattle.commit_catalog.specs.declared.Commits.{Commits}
use Rattle.object_store.specs.declared.store.Put.{Put}
use Rattle.object_store.specs.declared.store.Gone.{Gone}
use Rattle.table_model.specs.declared.answers.StepFault.{StepFault}
use Rattle.table_model.specs.declared.answers.StepFault.TheVariants.{Fault, Memory}
use Rattle.table_model.specs.declared.answers.Looked.{Looked}
use Rattle.table_model.specs.declared.answers.Staged.{Staged}
use Rattle.table_model.specs.declared.answers.Staged.TheVariants as staged
use Rattle.table_model.specs.Turns.{CommitsTurn, LookupTurn, ListTurn, GetTurn, StageTurn, RatifyTurn, PublishTurn, ReportTurn, ClearTurn}
use Rattle.table_model.specs.Conditions.{MayRatify, MayPublish, MayReport, MayClear}
use Rattle.table_model.specs.Learning.{LearnsCommits, LearnsLookup, LearnsList, LearnsGet, LearnsStage, LearnsRatify, LearnsPublish, LearnsReport, LearnsClear}
use Rattle.table_model.specs.Learned.{commits_learned, lookup_learned, stage_learned, publish_learned, report_learned, clear_learned}
use Rattle.table_model.proofs.Outcomes.{outcome-refused}
use Rattle.table_model.proofs.Asking.{outcome-commits, learns-commits, outcome-lookup, learns-lookup}
use Rattle.table_model.proofs.Reading.{outcome-list, learns-list, outcome-get, learns-get}
use Rattle.table_model.proofs.Ratifying.{outcome-ratify, learns-ratify}
use Rattle.table_model.proofs.Calls.{outcome-stage, learns-stage, outcome-publish, learns-publish, outcome-report, learns-report, outcome-clear, learns-clear}
use Rattle.table_world.specs.Done.{IsKnownIn, HasDone}
use Rattle.table_model.specs.Learning.{kept_after}
use Rattle.table_model.specs.Learned.{published_where_gone, get_learned, list_learned, ratify_learned}
use Rattle.table_model.proofs.Worlds.{later_refl, holds-at_start}
use Rattle.table_model.proofs.Knowing.{length-log_of, valid_of}
use Rattle.table_model.specs.declared.notes.Notes.{Notes}
use Rattle.table_model.specs.Noted.{noted, known_with, known_of}
use Rattle.table_model.specs.Noting.{commits_noted, lookup_noted, report_noted, is_seen_name, published_gone, get_noted, ratify_noted, tried}
use Rattle.table_model.specs.Alone.{Alone, HasPutAll, LoneOutcome, IsAloneAfter}
use Rattle.table_model.proofs.Putting.{puts-commits, puts-lookup, puts-list, puts-get, puts-stage, puts-ratify, puts-publish, puts-report, puts-clear}
use Rattle.table_model.proofs.Lasting.{after_outcome}

abbrev alone : WorldData → Knowledge → Alone
alone w k = record { world = w; known = k }

-- what holds after a turn
pub record IsDone (w x : WorldData) (k m : Knowledge) : Type 0 where
  pub grows : IsGrown k m
  pub valid : IsValid m
  pub holds : HoldsIn x m
  pub after : IsAloneAfter (alone w k) (alone x m)

done_with : (w x : WorldData) (k m : Knowledge) → LoneOutcome w x k m → (IsTrue w.tells → HasPutAll (alone w k) → HasPutAll (alone x m)) → IsDone w x k m
done_with w x k m o puts = record {
  grows = o.turn.grown;
  valid = valid_of x m o.turn.consistent o.turn.holds;
  holds = o.turn.holds;
  after = after_outcome w x k m o puts;
}

-- the same, of an equal knowledge
pub done_as : (w x : WorldData) (k m now : Knowledge) → LoneOutcome w x k m → (IsTrue w.tells → HasPutAll (alone w k) → HasPutAll (alone x m)) → now ≡ m → IsDone w x k now
done_as w x k m now o puts e = let P : Knowledge → Type 0 = λ n. IsDone w x k n in subst P (sym e) (done_with w x k m o puts)

-- the front of the log that was seen stays
pub same_front : (w x : WorldData) (seen : ℕ) → IsLater w x → seen ≤ length w.records → take seen (log_of x) ≡ take seen (log_of w)
same_front w x seen later le =
    let long : seen ≤ length (log_of w) = let e = length-log_of w in omega (arith, e) in
    ap (take seen) later.log.is ∙ take-append-le seen (log_of w) later.log.rest long

same_terms : (w x : WorldData) → IsLater w x → terms_of x ≡ terms_of w
same_terms w x later = let a = later.limits in let b = later.tells in cc

-- what is known in the later world is what was known, where no commit was seen anew
pub known_moved : (k : Knowledge) (w x : WorldData) (seen : ℕ) → IsLater w x → seen ≤ length w.records → known_with k seen x ≡ known_with k seen w
known_moved k w x seen later le =
    ap (λ (t : Terms). let m : Knowledge = record k { terms = Some t; seen = take seen (log_of x) } in m) (same_terms w x later)
    ∙ ap (λ (s : List Commit). let m : Knowledge = record k { terms = Some (terms_of w); seen = s } in m) (same_front w x seen later le)

-- the notes as they are now, in the world as it is now
pub known_now : (n : Notes) (k : Knowledge) (w x : WorldData) (seen : ℕ) → noted n ≡ k → n.seen ≡ seen → IsLater w x → seen ≤ length w.records
    → known_of x n ≡ known_with k seen w
known_now n k w x seen e f later le =
    ap (λ (m : Knowledge). known_with m n.seen x) e ∙ ap (λ (s : ℕ). known_with k s x) f ∙ known_moved k w x seen later le

-- who knows the number of commits has seen the log
pub known_whole : (n : Notes) (k : Knowledge) (w x : WorldData) (count : ℕ) → noted n ≡ k → n.seen ≡ count → IsLater w x → count ≡ length x.records
    → known_of x n ≡ record k { terms = Some (terms_of w); seen = log_of x }
known_whole n k w x count e f later c =
    let whole : take n.seen (log_of x) ≡ log_of x = take_all n.seen (log_of x) (let g = length-log_of x in omega (arith, c, f, g)) in
    ap (λ (m : Knowledge). let q : Knowledge = record m { terms = Some (terms_of x); seen = take n.seen (log_of x) } in q) e
    ∙ ap (λ (s : List Commit). let q : Knowledge = record k { terms = Some (terms_of x); seen = s } in q) whole
    ∙ ap (λ (t : Terms). let q : Knowledge = record k { terms = Some t; seen = log_of x } in q) (same_terms w x later)

-- notes by name

gone_as : (n : LogName) (seen : List Commit) (p : ℕ) → published_gone n (is_seen_name n seen) p ≡ published_where_gone n seen p
gone_as (name.Published version) seen p = refl
gone_as (name.Staged version id) seen p = refl
gone_as (name.Checkpoint version id) seen p = refl
gone_as (name.Parquet version) seen p = refl
gone_as name.Other seen p = refl

kept_with : (n : LogName) (b : List ℕ) (k : Knowledge) (seen : ℕ) (w : WorldData) (p g : ℕ)
    → known_with (record (kept_after n b k) { published = p; gets = g }) seen w ≡ record (kept_after n b (known_with k seen w)) { published = p; gets = g }
kept_with (name.Published version) b k seen w p g = refl
kept_with (name.Staged version id) b k seen w p g = refl
kept_with (name.Checkpoint version id) b k seen w p g = refl
kept_with (name.Parquet version) b k seen w p g = refl
kept_with name.Other b k seen w p g = refl

pub get_noted_learned : (n : LogName) (b : Bytes) (is : Bool) (k : Knowledge) (seen : ℕ) (w : WorldData) → is ≡ is_seen_name n (take seen (log_of w))
    → known_with (get_noted n is k (Ok b)) seen w ≡ get_learned n (known_with k seen w) (Ok b)
get_noted_learned n (bytes.Whole b) is k seen w e = kept_with n b.items k seen w _ _
get_noted_learned n bytes.Absent is k seen w e =
    ap (λ (p : ℕ). let m : Knowledge = record k { terms = Some (terms_of w); seen = take seen (log_of w); published = p; absents = k.absents ++ n ∷ []; gets = k.gets + 1 } in m)
    (ap (λ (t : Bool). published_gone n t k.published) e ∙ gone_as n (take seen (log_of w)) k.published)

short_take : {A : Type 0} (n : ℕ) (xs : List A) → n ≤ length xs → length (take n xs) ≡ n
short_take n xs le = let e = length-take n xs in omega (arith, e)

length_front : (w : WorldData) (seen : ℕ) → seen ≤ length w.records → length (take seen (log_of w)) ≡ seen
length_front w seen le = let e = length-log_of w in short_take seen (log_of w) (omega (arith, e))

pub ratify_noted_learned : (version count : ℕ) (a : Ratify) (k : Knowledge) (seen : ℕ) (w x : WorldData) → seen ≤ length w.records
    → record (ratify_noted version seen a k) { terms = Some (terms_of w); seen = log_of x } ≡ ratify_learned version (known_with k seen w) (Ok a) x
ratify_noted_learned version count ratify.Done k seen w x le = refl
ratify_noted_learned version count (ratify.Lost latest) k seen w x le =
    ap (λ (n : ℕ). let m : Knowledge = record k { terms = Some (terms_of w); seen = log_of x; tries = k.tries ++ tried version n refusal.Lost } in m) (sym (length_front w seen le))
ratify_noted_learned version count (ratify.Full latest) k seen w x le = refl
ratify_noted_learned version count (ratify.Backlog latest reported) k seen w x le =
    ap (λ (n : ℕ). let m : Knowledge = record k { terms = Some (terms_of w); seen = log_of x; published = max k.published reported; reported = reported; tries = k.tries ++ tried version n refusal.Backlog } in m) (sym (length_front w seen le))

-- one turn, all of it

has_done : (turn learns : Type 0) (w x : WorldData) (n m : Notes) (k : Knowledge) → turn → learns → LoneOutcome w x (known_of w n) k → (IsTrue w.tells → HasPutAll (alone w (known_of w n)) → HasPutAll (alone x k))
    → known_of x m ≡ k → m.seen ≤ length x.records
    → HasDone turn learns w n x m
has_done turn learns w x n m k t l o puts e le =
    let d : IsDone w x (known_of w n) (known_of x m) = done_as w x (known_of w n) k (known_of x m) o puts e in
    record {
      turned = t;
      learnt = l;
      grows = d.grows;
      valid = d.valid;
      after = d.after;
      known = record { consistent = o.turn.consistent; holds = d.holds; seen = le };
    }

seen_later : (w x : WorldData) (n m : Notes) → IsKnownIn w n → IsLater w x → m.seen ≡ n.seen → m.seen ≤ length x.records
seen_later w x n m h later e = let a = h.seen in let b = later.records in omega (arith, e)

-- nothing was done, and nothing noted
pub refused : (turn learns : Type 0) (w : WorldData) (n m : Notes) → IsKnownIn w n → turn → (known_of w m ≡ known_of w n → learns) → noted m ≡ noted n → m.seen ≡ n.seen
    → HasDone turn learns w n w m
refused turn learns w n m h t l e f =
    let same : known_of w m ≡ known_of w n = known_now m (noted n) w w n.seen e f (later_refl w) h.seen in
    has_done turn learns w w n m (known_of w n) t (l same) (outcome-refused w (known_of w n) h.consistent h.holds) (λ tells p. p) same (seen_later w w n m h (later_refl w) f)

-- a turn with an answer

moved_learns : (P : Knowledge → Type 0) (now k : Knowledge) → now ≡ k → P k → P now
moved_learns P now k e h = subst P (sym e) h

pub commits_done : (w x : WorldData) (n m : Notes) (c : Commits) → IsKnownIn w n → CommitsTurn w (Ok c) x
    → noted m ≡ commits_noted c.reported (noted n)
    → m.seen ≡ c.count
    → HasDone (CommitsTurn w (Ok c) x) (LearnsCommits w.tells (known_of w n) (Ok c) (known_of x m)) w n x m
commits_done w x n m c h t e f =
    let o = outcome-commits w x (known_of w n) (Ok c) h.consistent h.holds t in
    let count : c.count ≡ length x.records = t.0.count ∙ ap (λ (y : WorldData). length y.records) (sym t.1) in
    let is : known_of x m ≡ commits_learned (known_of w n) (Ok c) x = known_whole m _ w x c.count e f o.turn.later count in
    has_done _ _ w x n m _ t (moved_learns (LearnsCommits w.tells (known_of w n) (Ok c)) _ _ is (learns-commits w x (known_of w n) (Ok c) h.consistent h.holds t)) o (λ tells p. puts-commits w x (known_of w n) c t p) is (omega (arith, f, count))

pub lookup_done : (version : ℕ) (w x : WorldData) (n m : Notes) (a : Looked) → IsKnownIn w n → LookupTurn version w (Ok a) x
    → noted m ≡ lookup_noted (noted n)
    → m.seen ≡ a.count
    → HasDone (LookupTurn version w (Ok a) x) (LearnsLookup w.tells version (known_of w n) (Ok a) (known_of x m)) w n x m
lookup_done version w x n m a h t e f =
    let o = outcome-lookup version w x (known_of w n) (Ok a) h.consistent h.holds t in
    let count : a.count ≡ length x.records = t.count ∙ ap (λ (y : WorldData). length y.records) (sym t.same) in
    let is : known_of x m ≡ lookup_learned (known_of w n) (Ok a) x = known_whole m _ w x a.count e f o.turn.later count in
    has_done _ _ w x n m _ t (moved_learns (LearnsLookup w.tells version (known_of w n) (Ok a)) _ _ is (learns-lookup version w x (known_of w n) (Ok a) h.consistent h.holds t)) o (λ tells p. puts-lookup version w x (known_of w n) a t p) is (omega (arith, f, count))

list_moved : (k : Knowledge) (seen : ℕ) (w : WorldData) (r : Result (Vec LogName Global) StepFault) → known_with (list_learned k r) seen w ≡ list_learned (known_with k seen w) r
list_moved k seen w (Ok names) = refl
list_moved k seen w (Err Memory) = refl
list_moved k seen w (Err (Fault at)) = refl

pub list_done : (w x : WorldData) (n m : Notes) (r : Result (Vec LogName Global) StepFault) → IsKnownIn w n → ListTurn w r x
    → noted m ≡ list_learned (noted n) r → m.seen ≡ n.seen
    → HasDone (ListTurn w r x) (LearnsList w.tells (known_of w n) r (known_of x m)) w n x m
list_done w x n m r h t e f =
    let o = outcome-list w x (known_of w n) r h.consistent h.holds t in
    let is : known_of x m ≡ list_learned (known_of w n) r = known_now m _ w x n.seen e f o.turn.later h.seen ∙ list_moved (noted n) n.seen w r in
    has_done _ _ w x n m _ t (moved_learns (LearnsList w.tells (known_of w n) r) _ _ is (learns-list w x (known_of w n) r h.consistent h.holds t)) o (λ tells p. puts-list w x (known_of w n) r t p) is (seen_later w x n m h o.turn.later f)

get_moved : (name : LogName) (k : Knowledge) (seen : ℕ) (w : WorldData) (r : Result Bytes StepFault) (is : Bool) → is ≡ is_seen_name name (take seen (log_of w))
    → known_with (get_noted name is k r) seen w ≡ get_learned name (known_with k seen w) r
get_moved n k seen w (Ok b) is e = get_noted_learned n b is k seen w e
get_moved n k seen w (Err Memory) is e = refl
get_moved n k seen w (Err (Fault at)) is e = refl

pub get_done : (name : LogName) (w x : WorldData) (n m : Notes) (r : Result Bytes StepFault) (is : Bool) → IsKnownIn w n → GetTurn name w r x
    → is ≡ is_seen_name name (take n.seen (log_of w)) → noted m ≡ get_noted name is (noted n) r → m.seen ≡ n.seen
    → HasDone (GetTurn name w r x) (LearnsGet w.tells name (known_of w n) r (known_of x m)) w n x m
get_done name w x n m r is h t test e f =
    let o = outcome-get name w x (known_of w n) r h.consistent h.holds t in
    let same : known_of x m ≡ get_learned name (known_of w n) r = known_now m _ w x n.seen e f o.turn.later h.seen ∙ get_moved name (noted n) n.seen w r is test in
    has_done _ _ w x n m _ t (moved_learns (LearnsGet w.tells name (known_of w n) r) _ _ same (learns-get name w x (known_of w n) r h.consistent h.holds t)) o (λ tells p. puts-get name w x (known_of w n) r tells t p) same (seen_later w x n m h o.turn.later f)

stage_moved : (version id : ℕ) (text : List ℕ) (k : Knowledge) (seen : ℕ) (w : WorldData) (r : Result Staged StepFault)
    → known_with (stage_learned version id text k r) seen w ≡ stage_learned version id text (known_with k seen w) r
stage_moved version id text k seen w (Ok staged.Done) = refl
stage_moved version id text k seen w (Ok staged.Taken) = refl
stage_moved version id text k seen w (Err Memory) = refl
stage_moved version id text k seen w (Err (Fault at)) = refl

pub stage_done : (version id : ℕ) (text : List ℕ) (w x : WorldData) (n m : Notes) (r : Result Staged StepFault) → IsKnownIn w n → version < 2 ^ 64 → id < 2 ^ 128
    → StageTurn version id text w r x → noted m ≡ stage_learned version id text (noted n) r → m.seen ≡ n.seen
    → HasDone (StageTurn version id text w r x) (LearnsStage version id text (known_of w n) r (known_of x m)) w n x m
stage_done version id text w x n m r h small tiny t e f =
    let o = outcome-stage version id text w x (known_of w n) r h.consistent h.holds small tiny t in
    let is : known_of x m ≡ stage_learned version id text (known_of w n) r = known_now m _ w x n.seen e f o.turn.later h.seen ∙ stage_moved version id text (noted n) n.seen w r in
    has_done _ _ w x n m _ t (moved_learns (LearnsStage version id text (known_of w n) r) _ _ is (learns-stage version id text w x (known_of w n) r t)) o (λ tells p. puts-stage version id text w x (known_of w n) r tells small tiny t p) is (seen_later w x n m h o.turn.later f)

pub ratify_done : (version id : ℕ) (time : ℤ) (w x : WorldData) (n m : Notes) (a : Ratify) → IsKnownIn w n → MayRatify w.tells (known_of w n) version id time
    → RatifyTurn version id time w (Ok a) x → noted m ≡ ratify_noted version n.seen a (noted n) → m.seen ≡ length x.records
    → HasDone (RatifyTurn version id time w (Ok a) x) (LearnsRatify w.tells version id (known_of w n) (Ok a) (known_of x m)) w n x m
ratify_done version id time w x n m a h may t e f =
    let o = outcome-ratify version id time w x (known_of w n) (Ok a) h.consistent h.holds may t in
    let is : known_of x m ≡ ratify_learned version (known_of w n) (Ok a) x =
    known_whole m _ w x (length x.records) e f o.turn.later refl ∙ ratify_noted_learned version 0 a (noted n) n.seen w x h.seen in
    has_done _ _ w x n m _ t (moved_learns (LearnsRatify w.tells version id (known_of w n) (Ok a)) _ _ is (learns-ratify version id time w x (known_of w n) (Ok a) h.consistent h.holds may t)) o (λ tells p. puts-ratify version id time w x (known_of w n) a h.holds may t p) is (omega (arith, f))

publish_moved : (version : ℕ) (k : Knowledge) (seen : ℕ) (w : WorldData) (r : Result Put StepFault) → known_with (publish_learned version k r) seen w ≡ publish_learned version (known_with k seen w) r
publish_moved version k seen w (Ok a) = refl
publish_moved version k seen w (Err Memory) = refl
publish_moved version k seen w (Err (Fault at)) = refl

pub publish_done : (version : ℕ) (text : List ℕ) (w x : WorldData) (n m : Notes) (r : Result Put StepFault) → IsKnownIn w n → version < 2 ^ 64 → MayPublish w.tells (known_of w n) version text
    → PublishTurn version text w r x → noted m ≡ publish_learned version (noted n) r → m.seen ≡ n.seen
    → HasDone (PublishTurn version text w r x) (LearnsPublish version (known_of w n) r (known_of x m)) w n x m
publish_done version text w x n m r h small may t e f =
    let o = outcome-publish version text w x (known_of w n) r h.consistent h.holds small may t in
    let is : known_of x m ≡ publish_learned version (known_of w n) r = known_now m _ w x n.seen e f o.turn.later h.seen ∙ publish_moved version (noted n) n.seen w r in
    has_done _ _ w x n m _ t (moved_learns (LearnsPublish version (known_of w n) r) _ _ is (learns-publish version text w x (known_of w n) r t)) o (λ tells p. puts-publish version text w x (known_of w n) r tells small t p) is (seen_later w x n m h o.turn.later f)

pub report_done : (count : ℕ) (w x : WorldData) (n m : Notes) (answer : ℕ) → IsKnownIn w n → MayReport (known_of w n) count
    → ReportTurn count w (Ok answer) x → noted m ≡ report_noted answer (noted n) → m.seen ≡ n.seen
    → HasDone (ReportTurn count w (Ok answer) x) (LearnsReport count (known_of w n) (Ok answer) (known_of x m)) w n x m
report_done count w x n m answer h may t e f =
    let o = outcome-report count w x (known_of w n) (Ok answer) h.consistent h.holds may t in
    let is : known_of x m ≡ report_learned (known_of w n) (Ok answer) = known_now m _ w x n.seen e f o.turn.later h.seen in
    has_done _ _ w x n m _ t (moved_learns (LearnsReport count (known_of w n) (Ok answer)) _ _ is (learns-report count w x (known_of w n) (Ok answer) h.holds t)) o (λ tells p. puts-report count w x (known_of w n) answer t p) is (seen_later w x n m h o.turn.later f)

clear_moved : (version id : ℕ) (k : Knowledge) (seen : ℕ) (w : WorldData) (r : Result Gone StepFault) → known_with (clear_learned version id k r) seen w ≡ clear_learned version id (known_with k seen w) r
clear_moved version id k seen w (Ok a) = refl
clear_moved version id k seen w (Err Memory) = refl
clear_moved version id k seen w (Err (Fault at)) = refl

pub clear_done : (version id : ℕ) (w x : WorldData) (n m : Notes) (r : Result Gone StepFault) → IsKnownIn w n → version < 2 ^ 64 → id < 2 ^ 128 → MayClear (known_of w n) version
    → ClearTurn version id w r x → noted m ≡ clear_learned version id (noted n) r → m.seen ≡ n.seen
    → HasDone (ClearTurn version id w r x) (LearnsClear version id (known_of w n) r (known_of x m)) w n x m
clear_done version id w x n m r h small tiny may t e f =
    let o = outcome-clear version id w x (known_of w n) r h.consistent h.holds small tiny may t in
    let is : known_of x m ≡ clear_learned version id (known_of w n) r = known_now m _ w x n.seen e f o.turn.later h.seen ∙ clear_moved version id (noted n) n.seen w r in
    has_done _ _ w x n m _ t (moved_learns (LearnsClear version id (known_of w n) r) _ _ is (learns-clear version id w x (known_of w n) r t)) o (λ tells p. puts-clear version id w x (known_of w n) r tells small tiny t p) is (seen_later w x n m h o.turn.later f)

-- a turn that left the world as it was, and nothing noted
pub refused_same : (w x : WorldData) (n m : Notes) → IsKnownIn w n → x ≡ w → noted m ≡ noted n → m.seen ≡ n.seen
    → HasDone (x ≡ w) (known_of x m ≡ known_of w n) w n x m
refused_same w x n m h t e f =
    let P : WorldData → Type 0 = λ y. HasDone (y ≡ w) (known_of y m ≡ known_of w n) w n y m in
    subst P (sym t) (refused _ _ w n m h refl (λ same. same) e f)

pub refused_by : (w x : WorldData) (n m : Notes) (fault : StepFault) → IsKnownIn w n → IsRefused w fault x → noted m ≡ noted n → m.seen ≡ n.seen
    → HasDone (IsRefused w fault x) (IsOnlyMemory (known_of w n) fault (known_of x m)) w n x m
refused_by w x n m Memory h t e f = refused_same w x n m h t e f
refused_by w x n m (Fault at) h t e f = absurd t

-- whether a version is recorded under an id, as the seen log says it
decided : (b : Bool) (id other : ℕ) (P : Type 0) → (IsTrue b → P × (other ≡ id)) → (P × (other ≡ id) → IsTrue b) → P → b ≡ (id == other)
decided true id other P there back p = sym (eq-eqb id other (sym (there refl).1))
decided false id other P there back p = elim (eqb_tells id other) [
  | inl same ↦ (let k : false ≡ true = back (p, sym same.1) in cc)
  | inr differ ↦ sym differ.0
]

pub seen_test : (w : WorldData) (seen version id : ℕ) (b : Bool) → seen ≤ length w.records → version < seen
    → (IsTrue b → IsRecordedUnder w.records version id) → (IsRecordedUnder w.records version id → IsTrue b)
    → b ≡ is_seen_name (name.Staged version id) (take seen (log_of w))
seen_test w seen version id b le less there back =
    let far : version < length w.records = omega arith in
    let long : version < length (take seen (log_of w)) = let e = length_front w seen le in omega (arith, e) in
    let at : commit_at (take seen (log_of w)) version ≡ commit_at (log_of w) version = get_or-take seen (log_of w) version no_commit less in
    let same : (commit_at (take seen (log_of w)) version).id ≡ (entry_at w.records version).id =
    ap (λ (c : Commit). c.id) (at ∙ log_commit w version far) in
    decided b id (entry_at w.records version).id (version < length w.records) there back far
    ∙ ap (λ (n : ℕ). id == n) (sym same)
    ∙ sym (ap (λ (t : Bool). t && (id == (commit_at (take seen (log_of w)) version).id)) (lt-ltb version (length (take seen (log_of w))) long))

-- who has noted nothing

pub starts_as : (w : WorldData) (n : Notes) → n.seen ≡ 0 → noted n ≡ newcomer → known_of w n ≡ at_start (terms_of w)
starts_as w n e f = ap (λ (m : Knowledge). known_with m n.seen w) f ∙ ap (λ (s : ℕ). known_with newcomer s w) e

pub known_at_start : (w : WorldData) (n : Notes) → IsConsistent w → n.seen ≡ 0 → noted n ≡ newcomer → IsKnownIn w n
known_at_start w n consistent e f = record {
  consistent = consistent;
  holds = let P : Knowledge → Type 0 = λ k. HoldsIn w k in subst P (sym (starts_as w n e f)) (holds-at_start w);
  seen = omega (arith, e);
}
