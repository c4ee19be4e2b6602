-- The times of a sound log rise.
use Rattle.std.proofs.Common.{◌≡◌, ◌<◌, ◌≤◌, ◌+◌, ℕ, zero, suc, ℤ, pos, Bool, true, false, List, [], ◌∷◌, ◌++◌, length, take, refl, sym, ◌∙◌, ap, subst, arith}
use Rattle.std.specs.Prelude.{◌<ℤ◌, Option, None, Some, if◌then◌else◌, int_lt, map, option_and_then, unwrap_or}
use Rattle.std.proofs.lemmas.Int.{ints}
use Rattle.std.proofs.lemmas.List.{take_more, take_all, map-append}
use Rattle.std.proofs.lemmas.Option.{none-some}
use Rattle.action_types.specs.declared.actions.Action.{Action}
use Rattle.action_types.specs.declared.actions.Action.TheVariants as action
use Rattle.action_json.specs.Text.{actions_of}
use Rattle.commit_timestamps.specs.Times.{IsRising}
use Rattle.commit_timestamps.proofs.Rising.{IsRising-push_after}
use Rattle.reconcile.specs.Replay.{or_else, last_said, time_said, time_of_log}
use Rattle.reconcile.proofs.Last.{last_commit-push}
use Rattle.table_rules.specs.Broken.{first_broken, no_info, no_meta, time_not_after, not_after, after, broken_start}
use Rattle.table_rules.specs.declared.broken.Broken.TheVariants as broken
use Rattle.table_model.specs.Log.{Commit, commit_at, commit_time, history, no_commit, IsNextCommit, IsSound}
use Rattle.snapshot_load.specs.Texts.{times_of}
use Rattle.snapshot_load.proofs.Replaying.{history_more}

-- where the first of two answers that is one is none, both are none
first_none : {B : Type 0} (a b : Option B) → or_else a b ≡ None → a ≡ None
first_none None b e = refl
first_none (Some x) b e = absurd (none-some x (sym e))

second_none : {B : Type 0} (a b : Option B) → or_else a b ≡ None → b ≡ None
second_none None b e = e
second_none (Some x) b e = absurd (none-some x (sym e))

record Timed (actions : List Action) : Type 0 where
  time : ℤ
  is : last_said time_said actions ≡ Some time

timed_rest : (rest : List Action) (t : ℤ) (o : Option ℤ) → last_said time_said rest ≡ o → (time : ℤ) × (or_else o (Some t) ≡ Some time)
timed_rest rest t None e = (t, refl)
timed_rest rest t (Some u) e = (u, refl)

-- a commit that begins with its info has a time
has_time : (actions : List Action) → no_info actions ≡ None → Timed actions
has_time [] e = absurd (none-some _ (sym e))
has_time (action.Info i ∷ rest) e =
    let found = timed_rest rest i.time (last_said time_said rest) refl in record { time = found.0; is = found.1 }
has_time (action.Protocol p ∷ rest) e = absurd (none-some _ (sym e))
has_time (action.Meta p ∷ rest) e = absurd (none-some _ (sym e))
has_time (action.Txn p ∷ rest) e = absurd (none-some _ (sym e))
has_time (action.Domain p ∷ rest) e = absurd (none-some _ (sym e))
has_time (action.Remove p ∷ rest) e = absurd (none-some _ (sym e))
has_time (action.Add p ∷ rest) e = absurd (none-some _ (sym e))

start_none : (log : List (List Action)) (actions : List Action) → first_broken log actions ≡ None → broken_start (after log) actions ≡ None
start_none log actions e = first_none (broken_start (after log) actions) _ e

info_none : (log : List (List Action)) (actions : List Action) → first_broken log actions ≡ None → no_info actions ≡ None
info_none log actions e = first_none (no_info actions) _ (start_none log actions e)

after_none : (log : List (List Action)) (actions : List Action) → first_broken log actions ≡ None → time_not_after (time_of_log log) actions ≡ None
after_none log actions e =
    second_none (no_meta (after log).meta actions) _ (second_none (no_info actions) _ (start_none log actions e))

is_later : (last time : ℤ) (b : Bool) → int_lt last time ≡ b → (if b then None else Some (broken.TimeNotAfter last)) ≡ None → last <ℤ time
is_later last time true e h = omega (arith, ints)
is_later last time false e h = absurd (none-some _ (sym h))

-- the time of a commit that has one
pub commit_time_is : (text : List ℕ) (actions : List Action) → actions ≡ actions_of text → unwrap_or (last_said time_said actions) (pos 0) ≡ commit_time text
unfolding commit_time time_of_log
commit_time_is text actions is = ap (λ (a : List Action). unwrap_or (last_said time_said a) (pos 0)) is

time_at : (text : List ℕ) (t : ℤ) → last_said time_said (actions_of text) ≡ Some t → commit_time text ≡ t
time_at text t e = sym (commit_time_is text (actions_of text) refl) ∙ ap (λ (o : Option ℤ). unwrap_or o (pos 0)) e

log_time : (log : List (List Action)) (actions : List Action) → time_of_log (log ++ actions ∷ []) ≡ last_said time_said actions
unfolding time_of_log
log_time log actions = ap (option_and_then (last_said time_said)) (last_commit-push log actions)

-- each commit of a sound log is later than the one before it
next_later : (seen : List Commit) (version : ℕ) → IsSound seen → version + 1 < length seen
    → commit_time (commit_at seen version).bytes <ℤ commit_time (commit_at seen (version + 1)).bytes
next_later seen version sound less =
    let old = actions_of (commit_at seen version).bytes in
    let new = actions_of (commit_at seen (version + 1)).bytes in
    let first = has_time old (info_none _ old (sound version (omega (arith, less))).rules) in
    let rules = (sound (version + 1) less).rules in
    let second = has_time new (info_none _ new rules) in
    let log : time_of_log (history (take (version + 1) seen)) ≡ Some first.time =
    ap time_of_log (history_more seen version (omega (arith, less))) ∙ log_time (history (take version seen)) old ∙ first.is in
    let kept : not_after (Some first.time) (Some second.time) ≡ None =
    ap (λ (o : Option ℤ). not_after (Some first.time) o) (sym second.is) ∙ ap (λ (o : Option ℤ). not_after o (last_said time_said new)) (sym log)
    ∙ after_none (history (take (version + 1) seen)) new rules in
    let rises : first.time <ℤ second.time = is_later first.time second.time (int_lt first.time second.time) refl kept in
    subst (λ (t : ℤ). t <ℤ commit_time (commit_at seen (version + 1)).bytes) (sym (time_at (commit_at seen version).bytes first.time first.is))
    (subst (λ (t : ℤ). first.time <ℤ t) (sym (time_at (commit_at seen (version + 1)).bytes second.time second.is)) rises)

times_more : (seen : List Commit) (version : ℕ) → version < length seen → times_of (take (version + 1) seen) ≡ times_of (take version seen) ++ commit_time (commit_at seen version).bytes ∷ []
times_more seen version less = ap times_of (take_more seen version no_commit less) ∙ map-append (λ (c : Commit). commit_time c.bytes) (take version seen) (commit_at seen version ∷ [])

front_rises : (seen : List Commit) → IsSound seen → (count : ℕ) → count ≤ length seen → IsRising (times_of (take count seen))
front_rises seen sound zero less = λ i j d lt within. absurd (omega arith)
front_rises seen sound (suc zero) less =
    subst IsRising (sym (times_more seen 0 less)) (λ i j d lt within. absurd (omega (arith, lt, within)))
front_rises seen sound (suc (suc n)) less =
    let P : ℕ → Type 0 = λ k. IsRising (times_of (take k seen)) in
    let one : suc n ≡ n + 1 = omega arith in
    let two : n + 1 + 1 ≡ suc (suc n) = omega arith in
    let last = commit_time (commit_at seen n).bytes in
    let next = commit_time (commit_at seen (n + 1)).bytes in
    let before : IsRising (times_of (take (n + 1) seen)) = subst P one (front_rises seen sound (suc n) (omega (arith, less))) in
    let shape : IsRising (times_of (take n seen) ++ last ∷ []) = subst IsRising (times_more seen n (omega (arith, less))) before in
    let pushed : IsRising ((times_of (take n seen) ++ last ∷ []) ++ next ∷ []) =
    IsRising-push_after (times_of (take n seen)) last next shape (next_later seen n sound (omega (arith, less))) in
    let whole : IsRising (times_of (take (n + 1 + 1) seen)) =
    subst IsRising
    (sym (times_more seen (n + 1) (omega (arith, less)) ∙ ap (λ (ts : List ℤ). ts ++ next ∷ []) (times_more seen n (omega (arith, less)))))
    pushed in
    subst P two whole

-- the times of a sound log rise
pub times_rise : (seen : List Commit) → IsSound seen → IsRising (times_of seen)
times_rise seen sound =
    subst (λ (l : List Commit). IsRising (times_of l)) (take_all (length seen) seen (omega arith)) (front_rises seen sound (length seen) (omega arith))
