-- Reading version after version: what stays, and what the state stands for.
use Rattle.std.proofs.Common.{◌≡◌, ◌<◌, ◌≤◌, ◌+◌, ◌-◌, ◌*◌, ℕ, ℤ, pos, Bool, IsTrue, List, [], ◌∷◌, ◌++◌, length, take, drop, refl, sym, ◌∙◌, ap, subst, arith}
use Rattle.std.specs.Prelude.{Option, Vec, map, option_and_then, unwrap_or}
use Rattle.std.specs.declared.alloc.Global.{Global}
use Rattle.std.proofs.lemmas.List.{take_more, map-append, get_or-drop, length-drop, take_all}
use Rattle.commit_catalog.specs.declared.Commits.{Commits}
use Rattle.action_types.specs.declared.actions.Action.{Action}
use Rattle.action_json.specs.Text.{actions_of}
use Rattle.reconcile.specs.declared.State.{State}
use Rattle.reconcile.specs.Standing.{StandsFor, time_in}
use Rattle.reconcile.specs.Replay.{time_of_log, last_said, time_said}
use Rattle.reconcile.proofs.Last.{last_commit-push}
use Rattle.table_model.specs.Log.{Commit, commit_at, commit_time, history, no_commit, IsSound}
use Rattle.table_model.specs.Knowledge.{Knowledge}
use Rattle.snapshot_load.specs.Reading.{KeepsBelow, OnlyReads, IsCatalogue}
use Rattle.snapshot_load.proofs.Keeping.{keeps_none, keeps_both}

pub reads_none : (k : Knowledge) → OnlyReads 0 k k
reads_none k = record { same = refl; gets = omega arith; kept = keeps_none (length k.seen) k k refl }

-- what reads files leaves what was seen
pub seen_same : (n : ℕ) (k m : Knowledge) → OnlyReads n k m → m.seen ≡ k.seen
seen_same n k m h = ap (λ (x : Knowledge). x.seen) h.same

-- more turns that read a file
pub reads_more : (n p : ℕ) (j k m : Knowledge) → OnlyReads n j k → OnlyReads p k m → OnlyReads (n + p) j m
reads_more n p j k m g h = record {
  same = h.same ∙ ap (λ (x : Knowledge). let y : Knowledge = record x { published = m.published; kept = m.kept; absents = m.absents; gets = m.gets; failed = m.failed; faults = m.faults } in y) g.same;
  gets = omega (arith, g.gets, h.gets);
  kept =
      let seen : length k.seen ≡ length j.seen = ap (λ (x : Knowledge). length x.seen) g.same in
      keeps_both (length j.seen) (length j.seen) j k m (omega arith) g.kept (subst (λ (count : ℕ). KeepsBelow count k m) seen h.kept);
}

pub reads_at : (n p : ℕ) (j k : Knowledge) → n ≡ p → OnlyReads n j k → OnlyReads p j k
reads_at n p j k e h = subst (λ (x : ℕ). OnlyReads x j k) e h

-- one version more
pub reads_version : (version : ℕ) (j k m : Knowledge) → OnlyReads (2 * version) j k → OnlyReads 2 k m → OnlyReads (2 * (version + 1)) j m
reads_version version j k m g h = reads_at (2 * version + 2) (2 * (version + 1)) j m (omega arith) (reads_more (2 * version) 2 j k m g h)

-- what the catalogue told still holds
pub catalogue_kept : (c : Commits) (n : ℕ) (k m : Knowledge) → OnlyReads n k m → k.published ≤ m.published → IsCatalogue c k → IsCatalogue c m
catalogue_kept c n k m h rises g = record {
  count = g.count ∙ sym (ap length (seen_same n k m h));
  published = omega (arith, rises, g.published);
  staged_length = g.staged_length;
  ids = λ i less. g.ids i less ∙ sym (ap (λ (seen : List Commit). (commit_at seen (c.reported + i)).id) (seen_same n k m h));
}

pub history_more : (seen : List Commit) (version : ℕ) → version < length seen
    → history (take (version + 1) seen) ≡ history (take version seen) ++ actions_of (commit_at seen version).bytes ∷ []
history_more seen version less = ap history (take_more seen version no_commit less) ∙ map-append _ (take version seen) (commit_at seen version ∷ [])

-- the state after one version more
pub replayed_more : (s : State) (version : ℕ) (k m : Knowledge) (actions : List Action) → OnlyReads 2 k m → version < length k.seen
    → actions ≡ actions_of (commit_at m.seen version).bytes → StandsFor s (history (take version k.seen) ++ actions ∷ [])
    → StandsFor s (history (take (version + 1) m.seen))
replayed_more s version k m actions reads less is stands =
    let same : m.seen ≡ k.seen = seen_same 2 k m reads in
    let here : actions ≡ actions_of (commit_at k.seen version).bytes = is ∙ ap (λ (seen : List Commit). actions_of (commit_at seen version).bytes) same in
    let log : history (take (version + 1) m.seen) ≡ history (take version k.seen) ++ actions ∷ [] =
    ap (λ (seen : List Commit). history (take (version + 1) seen)) same ∙ history_more k.seen version less
    ∙ ap (λ (a : List Action). history (take version k.seen) ++ a ∷ []) (sym here) in
    subst (StandsFor s) (sym log) stands

-- what was seen is sound
pub sound_kept : (tells : Bool) (n : ℕ) (k m : Knowledge) → OnlyReads n k m → (IsTrue tells → IsSound k.seen) → IsTrue tells → IsSound m.seen
sound_kept tells n k m h sound t = let P : List Commit → Type 0 = λ seen. IsSound seen in subst P (sym (seen_same n k m h)) (sound t)

-- the state after all versions
pub replayed_all : (s : State) (seen : List Commit) (count : ℕ) → length seen ≤ count → StandsFor s (history (take count seen)) → StandsFor s (history seen)
replayed_all s seen count all stands = subst (λ (l : List Commit). StandsFor s (history l)) (take_all count seen all) stands

-- the time of a state is that of its last commit
pub state_time : (s : State) (seen : List Commit) (count : ℕ) → 0 < count → count ≤ length seen → StandsFor s (history (take count seen))
    → unwrap_or (time_in s) (pos 0) ≡ commit_time (commit_at seen (count - 1)).bytes
unfolding commit_time time_of_log
state_time s seen count some less stands =
    let at : count - 1 + 1 ≡ count = omega arith in
    let last : List Action = actions_of (commit_at seen (count - 1)).bytes in
    let log : history (take count seen) ≡ history (take (count - 1) seen) ++ last ∷ [] =
    ap (λ (n : ℕ). history (take n seen)) (sym at) ∙ history_more seen (count - 1) (omega arith) in
    ap (λ (o : Option ℤ). unwrap_or o (pos 0))
    (stands.time ∙ ap time_of_log log ∙ ap (option_and_then (last_said time_said)) (last_commit-push (history (take (count - 1) seen)) last))

-- the commits above a version, one more
pub winners_more : (seen : List Commit) (from count : ℕ) → from + count < length seen
    → history (take (count + 1) (drop from seen)) ≡ history (take count (drop from seen)) ++ actions_of (commit_at seen (from + count)).bytes ∷ []
winners_more seen from count less =
    history_more (drop from seen) count (let e = length-drop from seen in omega (arith, e))
    ∙ ap (λ (c : Commit). history (take count (drop from seen)) ++ actions_of c.bytes ∷ []) (get_or-drop from seen count no_commit)

pub winners_step : (ws : List (Vec Action Global)) (a : Vec Action Global) (from count version : ℕ) (k m : Knowledge) → from + count ≡ version
    → OnlyReads 2 k m → version < length k.seen → a.items ≡ actions_of (commit_at m.seen version).bytes
    → map (λ (v : Vec Action Global). v.items) ws ≡ history (take count (drop from k.seen))
    → map (λ (v : Vec Action Global). v.items) (ws ++ a ∷ []) ≡ history (take (count + 1) (drop from m.seen))
winners_step ws a from count version k m at reads less is before =
    let same : m.seen ≡ k.seen = seen_same 2 k m reads in
    let bound : from + count < length k.seen = omega arith in
    let here : a.items ≡ actions_of (commit_at k.seen (from + count)).bytes =
    is ∙ ap (λ (seen : List Commit). actions_of (commit_at seen version).bytes) same
    ∙ ap (λ (n : ℕ). actions_of (commit_at k.seen n).bytes) (sym at) in
    map-append (λ (v : Vec Action Global). v.items) ws (a ∷ [])
    ∙ ap (λ (xs : List (List Action)). xs ++ a.items ∷ []) before
    ∙ ap (λ (b : List Action). history (take count (drop from k.seen)) ++ b ∷ []) here
    ∙ sym (winners_more k.seen from count bound)
    ∙ sym (ap (λ (seen : List Commit). history (take (count + 1) (drop from seen))) same)

-- all commits above a version
pub winners_all : (seen : List Commit) (from count : ℕ) → from + count ≡ length seen → history (take count (drop from seen)) ≡ history (drop from seen)
winners_all seen from count e = ap history (take_all count (drop from seen) (let f = length-drop from seen in omega (arith, e, f)))
