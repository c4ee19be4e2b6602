-- The texts of commits that were read, one more, and the state that stands for them.
use Rattle.std.proofs.Common.{◌≡◌, ◌<◌, ◌≤◌, ◌+◌, ◌-◌, ℕ, ℤ, Bool, IsTrue, List, [], ◌∷◌, ◌++◌, length, take, drop, refl, sym, ◌∙◌, ap, subst, arith, length-append, ⊎_elim}
use Rattle.std.specs.declared.alloc.Global.{Global}
use Rattle.std.specs.Prelude.{Vec, map, min, Option, None, Some, IfSome}
use Rattle.std.proofs.lemmas.Option.{slice_get-get_or}
use Rattle.commit_timestamps.specs.Search.{Search, Agrees, HasTime}
use Rattle.commit_timestamps.specs.Times.{IsVersionAt}
use Rattle.std.proofs.lemmas.List.{take_more, map-append, get_or-drop, length-drop, length-map, get_or-map, take_all, take-append-le}
use Rattle.std.proofs.lemmas.Simd.{map-map}
use Rattle.std.proofs.lemmas.List.Elements.{All-nil, All-push}
use Rattle.action_types.specs.declared.actions.Action.{Action}
use Rattle.action_json.specs.Text.{actions_of}
use Rattle.reconcile.specs.declared.State.{State}
use Rattle.reconcile.specs.Replay.{Log}
use Rattle.reconcile.specs.Standing.{StandsFor}
use Rattle.table_model.specs.Log.{Commit, commit_at, commit_time, history, no_commit}
use Rattle.table_model.specs.Knowledge.{StartsWith}
use Rattle.table_model.specs.declared.snapshot.Snapshot.{Snapshot}
use Rattle.snapshot_load.specs.Texts.{IsText, IsReadAs, AreTexts, IsReplayOf, IsKept, IsTimeRead, AreTimesRead, AreActionsRead, times_of}
use Rattle.snapshot_load.specs.Snapshots.{AreTimes}
use Rattle.snapshot_load.specs.declared.answers.Times.{Times}
use Rattle.std.proofs.lemmas.Bool.{cases_lt}

pub texts_none : (tells : Bool) (seen : List Commit) (from : ℕ) → AreTexts tells seen from 0 []
texts_none tells seen from = record { length_is = refl; commits = All-nil IsText; known = λ t. refl }

bytes_more : (seen : List Commit) (from count : ℕ) → from + count < length seen
    → map (λ c. c.bytes) (take (count + 1) (drop from seen)) ≡ map (λ c. c.bytes) (take count (drop from seen)) ++ (commit_at seen (from + count)).bytes ∷ []
bytes_more seen from count less =
    let e = length-drop from seen in
    ap (map (λ (c : Commit). c.bytes)) (take_more (drop from seen) count no_commit (omega (arith, e, less)))
    ∙ map-append (λ (c : Commit). c.bytes) (take count (drop from seen)) (commit_at (drop from seen) count ∷ [])
    ∙ ap (λ (c : Commit). map (λ (x : Commit). x.bytes) (take count (drop from seen)) ++ c.bytes ∷ []) (get_or-drop from seen count no_commit)

-- one text more
pub texts_more : (tells : Bool) (seen : List Commit) (from count : ℕ) (texts : List (List ℕ)) (text : List ℕ) → from + count < length seen
    → IsText text → (IsTrue tells → text ≡ (commit_at seen (from + count)).bytes) → AreTexts tells seen from count texts
    → AreTexts tells seen from (count + 1) (texts ++ text ∷ [])
texts_more tells seen from count texts text less commit known h = record {
  length_is = (let e = length-append texts (text ∷ []) in let f = h.length_is in omega (arith, e, f));
  commits = All-push IsText texts text h.commits commit;
  known =
      λ t. ap (λ (xs : List (List ℕ)). xs ++ text ∷ []) (h.known t)
      ∙ ap (λ (x : List ℕ). map (λ (c : Commit). c.bytes) (take count (drop from seen)) ++ x ∷ []) (known t)
      ∙ sym (bytes_more seen from count less);
}

-- the texts of versions that were seen before stay theirs
pub texts_later : (tells : Bool) (front seen : List Commit) (count : ℕ) (texts : List (List ℕ)) → count ≤ length front → StartsWith seen front
    → AreTexts tells front 0 count texts → AreTexts tells seen 0 count texts
texts_later tells front seen count texts less starts h = record {
  length_is = h.length_is;
  commits = h.commits;
  known =
      λ t. h.known t
      ∙ ap (map (λ (c : Commit). c.bytes)) (sym (take-append-le count front starts.rest less) ∙ ap (take count) (sym starts.is));
}

pub replay_none : (tells : Bool) (seen : List Commit) (s : State) → StandsFor s [] → IsReplayOf tells seen 0 s
replay_none tells seen s stands = record { texts = []; are = texts_none tells seen 0; stands = stands }

-- the state after one version more
pub replay_more : (tells : Bool) (seen : List Commit) (version : ℕ) (s t : State) (actions : List Action) → version < length seen
    → IsReadAs tells seen version actions → ((log : Log) → StandsFor s log → StandsFor t (log ++ actions ∷ []))
    → IsReplayOf tells seen version s → IsReplayOf tells seen (version + 1) t
replay_more tells seen version s t actions less read step h = record {
  texts = h.texts ++ read.text ∷ [];
  are =
      let at : 0 + version ≡ version = omega arith in
      texts_more tells seen 0 version h.texts read.text (omega (arith, less)) read.commit
      (λ t. read.known t ∙ ap (λ (n : ℕ). (commit_at seen n).bytes) (sym at)) h.are;
  stands =
      let log : map actions_of (h.texts ++ read.text ∷ []) ≡ map actions_of h.texts ++ actions ∷ [] =
      map-append actions_of h.texts (read.text ∷ []) ∙ ap (λ (a : List Action). map actions_of h.texts ++ a ∷ []) (sym read.actions_are) in
      subst (StandsFor t) (sym log) (step (map actions_of h.texts) h.stands);
}

pub replay_later : (tells : Bool) (front seen : List Commit) (count : ℕ) (s : State) → count ≤ length front → StartsWith seen front
    → IsReplayOf tells front count s → IsReplayOf tells seen count s
replay_later tells front seen count s less starts h =
    record { texts = h.texts; are = texts_later tells front seen count h.texts less starts h.are; stands = h.stands }

pub replay_same : (tells : Bool) (front seen : List Commit) (count : ℕ) (s : State) → seen ≡ front → IsReplayOf tells front count s → IsReplayOf tells seen count s
replay_same tells front seen count s same h = subst (λ (l : List Commit). IsReplayOf tells l count s) (sym same) h

pub replay_at : (tells : Bool) (seen : List Commit) (n p : ℕ) (s : State) → n ≡ p → IsReplayOf tells seen n s → IsReplayOf tells seen p s
replay_at tells seen n p s same h = subst (λ (l : ℕ). IsReplayOf tells seen l s) same h

-- where the store tells, the state stands for the log up to there
pub replay_stands : (tells : Bool) (seen : List Commit) (count : ℕ) (s : State) → IsReplayOf tells seen count s → IsTrue tells → StandsFor s (history (take count seen))
replay_stands tells seen count s h t =
    let log : map actions_of h.texts ≡ history (take count seen) =
    ap (map actions_of) (h.are.known t) ∙ map-map actions_of (λ (c : Commit). c.bytes) (take count seen) in
    subst (StandsFor s) log h.stands

-- a snapshot that is kept of a log is one of each longer log
pub kept_later : (tells : Bool) (front seen : List Commit) (s : Snapshot) → StartsWith seen front → IsKept tells front s → IsKept tells seen s
kept_later tells front seen s starts h = record {
  version = (let e = ap length starts.is in let f = length-append front starts.rest in let v = h.version in omega (arith, e, f, v));
  replay = replay_later tells front seen (s.version + 1) s.state (let v = h.version in omega (arith, v)) starts h.replay;
}

-- times that were read

pub times_read_none : (tells : Bool) (seen : List Commit) (from count : ℕ) → count ≡ 0 → AreTimesRead tells seen from count []
times_read_none tells seen from count e =
    subst (λ (n : ℕ). AreTimesRead tells seen from n []) (sym e) (record { texts = []; are = texts_none tells seen from; times_are = refl })

pub times_read_at : (tells : Bool) (seen : List Commit) (from n p : ℕ) (times : List ℤ) → n ≡ p → AreTimesRead tells seen from n times → AreTimesRead tells seen from p times
times_read_at tells seen from n p times e h = subst (λ (x : ℕ). AreTimesRead tells seen from x times) e h

pub times_read_same : (tells : Bool) (front seen : List Commit) (from count : ℕ) (times : List ℤ) → seen ≡ front → AreTimesRead tells front from count times
    → AreTimesRead tells seen from count times
times_read_same tells front seen from count times same h = subst (λ (l : List Commit). AreTimesRead tells l from count times) (sym same) h

pub times_read_more : (tells : Bool) (seen : List Commit) (from version : ℕ) (times : List ℤ) (time : ℤ) → from ≤ version → version < length seen
    → IsTimeRead tells seen version time → AreTimesRead tells seen from (version - from) times → AreTimesRead tells seen from (version + 1 - from) (times ++ time ∷ [])
times_read_more tells seen from version times time least less read h =
    let at : from + (version - from) ≡ version = omega (arith, least) in
    let more : version - from + 1 ≡ version + 1 - from = omega (arith, least) in
    times_read_at tells seen from (version - from + 1) (version + 1 - from) (times ++ time ∷ []) more (record {
      texts = h.texts ++ read.text ∷ [];
      are =
          texts_more tells seen from (version - from) h.texts read.text (omega (arith, at, less)) read.commit
          (λ t. read.known t ∙ ap (λ (n : ℕ). (commit_at seen n).bytes) (sym at)) h.are;
      times_are =
          ap (λ (ts : List ℤ). ts ++ time ∷ []) h.times_are ∙ ap (λ (t : ℤ). map commit_time h.texts ++ t ∷ []) read.time_is
          ∙ sym (map-append commit_time h.texts (read.text ∷ []));
    })

take_most : (n : ℕ) (xs : List Commit) → take (min n (length xs)) xs ≡ take n xs
take_most n xs =
    ⊎_elim
    (λ (more : n < length xs). let e : min n (length xs) ≡ n = omega arith in ap (λ (k : ℕ). take k xs) e)
    (λ (all : length xs ≤ n). let e : min n (length xs) ≡ length xs = omega arith in
    ap (λ (k : ℕ). take k xs) e ∙ take_all (length xs) xs (omega arith) ∙ sym (take_all n xs all))
    (cases_lt n (length xs))

pub are_times : (tells : Bool) (seen : List Commit) (from count : ℕ) (t : Times) → t.latest + 1 ≡ length seen → t.from ≡ from → count ≡ min 100 (length seen - from)
    → AreTimesRead tells seen from count t.times.items → AreTimes tells seen from t
are_times tells seen from count t latest at most h = record {
  latest = latest;
  from_is = at;
  count = ap length h.times_are ∙ length-map h.texts commit_time ∙ h.are.length_is ∙ most;
  times =
      λ told. h.times_are ∙ ap (map commit_time) (h.are.known told)
      ∙ map-map commit_time (λ (c : Commit). c.bytes) (take count (drop from seen))
      ∙ ap (λ (n : ℕ). times_of (take n (drop from seen))) (most ∙ ap (min 100) (sym (length-drop from seen)))
      ∙ ap times_of (take_most 100 (drop from seen));
}

pub times_counted : (tells : Bool) (seen : List Commit) (from count : ℕ) (times : List ℤ) → AreTimesRead tells seen from count times
    → AreTimesRead tells seen from (length times) times
times_counted tells seen from count times h =
    times_read_at tells seen from count (length times) times (sym (ap length h.times_are ∙ length-map h.texts commit_time ∙ h.are.length_is)) h

-- a time that was read is that of its version
pub has_time_read : (tells : Bool) (seen : List Commit) (version : ℕ) (time : ℤ) → version < length seen → IsTimeRead tells seen version time → IsTrue tells
    → HasTime (times_of seen) version time
has_time_read tells seen version time less read told =
    slice_get-get_or (times_of seen) version (commit_time no_commit.bytes) (let e = length-map seen (λ (c : Commit). commit_time c.bytes) in omega (arith, e, less))
    ∙ ap Some
    (get_or-map (λ (c : Commit). commit_time c.bytes) seen version no_commit (commit_time no_commit.bytes) less
    ∙ sym (read.time_is ∙ ap commit_time (read.known told)))

pub agrees_more : (old new : Search) (times : List ℤ) (version : ℕ) (time : ℤ) → Some version ≡ old.asks
    → IfSome old.asks (λ v. (ts : List ℤ) → Agrees old ts → HasTime ts v time → Agrees new ts) → Agrees old times → HasTime times version time
    → Agrees new times
agrees_more old new times version time is h =
    let P : Option ℕ → Type 0 = λ o. IfSome o (λ v. (ts : List ℤ) → Agrees old ts → HasTime ts v time → Agrees new ts) in
    let step : P (Some version) = subst P (sym is) h in
    step times

pub version_within : (times : List ℤ) (t : ℤ) (found : Option ℕ) → IsVersionAt times t found → IfSome found (λ v. v < length times)
version_within times t None h = tt
version_within times t (Some v) h = h.is_version

-- actions that were read

pub actions_read_none : (tells : Bool) (seen : List Commit) (from count : ℕ) (ws : List (Vec Action Global)) → count ≡ 0 → ws ≡ []
    → AreActionsRead tells seen from count (map (λ (v : Vec Action Global). v.items) ws)
actions_read_none tells seen from count ws e none =
    subst (λ (n : ℕ). AreActionsRead tells seen from n (map (λ (v : Vec Action Global). v.items) ws)) (sym e)
    (subst (λ (l : List (Vec Action Global)). AreActionsRead tells seen from 0 (map (λ (v : Vec Action Global). v.items) l)) (sym none)
    (record { texts = []; are = texts_none tells seen from; actions_are = refl }))

pub actions_read_more : (tells : Bool) (front seen : List Commit) (from count version : ℕ) (ws : List (Vec Action Global)) (a : Vec Action Global) → seen ≡ front
    → from + count ≡ version → version < length front → IsReadAs tells seen version a.items
    → AreActionsRead tells front from count (map (λ (v : Vec Action Global). v.items) ws)
    → AreActionsRead tells seen from (count + 1) (map (λ (v : Vec Action Global). v.items) (ws ++ a ∷ []))
actions_read_more tells front seen from count version ws a same at less read h =
    let total = ap length same in
    let before = subst (λ (l : List Commit). AreActionsRead tells l from count (map (λ (v : Vec Action Global). v.items) ws)) (sym same) h in
    record {
      texts = before.texts ++ read.text ∷ [];
      are =
          texts_more tells seen from count before.texts read.text (omega (arith, at, less, total)) read.commit
          (λ t. read.known t ∙ ap (λ (n : ℕ). (commit_at seen n).bytes) (sym at)) before.are;
      actions_are =
          map-append (λ (v : Vec Action Global). v.items) ws (a ∷ [])
          ∙ ap (λ (xs : List (List Action)). xs ++ a.items ∷ []) before.actions_are
          ∙ ap (λ (x : List Action). map actions_of before.texts ++ x ∷ []) read.actions_are
          ∙ sym (map-append actions_of before.texts (read.text ∷ []));
    }
