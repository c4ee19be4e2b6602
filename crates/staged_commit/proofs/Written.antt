-- What writing and a check of rules say together of actions as the next commit.
use Rattle.std.proofs.Common.{◌≡◌, ℕ, ℤ, List, None, Result, Ok, Err, IfOk, IfErr, subst}
use Rattle.action_types.specs.declared.actions.Action.{Action}
use Rattle.table_rules.specs.Broken.{Before, broken_by}
use Rattle.staged_commit.specs.Answers.{IsComposedOn, IsJudged, IsLong, IsRefusedOn, IsTooLargeOn, IsUnwritten, IsWritten}
use Rattle.staged_commit.specs.declared.commit.Composed.{Composed}
use Rattle.staged_commit.specs.declared.fault.ComposeError.{ComposeError}
use Rattle.staged_commit.specs.declared.fault.ComposeError.TheVariants as fault

module _ (table : Before) (actions : List Action) where
  composed-written : (time : ℤ) (limit : ℕ) (made : Composed) → broken_by table actions ≡ None → IsWritten actions time limit made
      → IsComposedOn table actions time limit made
  composed-written time limit made rules h = record {
    actions_are = h.actions_are;
    time_is = h.time_is;
    text = h.text;
    reads_back = h.reads_back;
    rules = rules;
    within = h.within;
  }

  pub composed-if-written : (time : ℤ) (limit : ℕ) (r : Result Composed ComposeError) → broken_by table actions ≡ None
      → IfOk r (λ c. IsWritten actions time limit c) → IfOk r (λ c. IsComposedOn table actions time limit c)
  composed-if-written time limit (Ok made) rules h = composed-written time limit made rules h
  composed-if-written time limit (Err e) rules h = tt

  too-large : (limit bytes : ℕ) → broken_by table actions ≡ None → IsLong actions limit bytes → IsTooLargeOn table actions limit bytes
  too-large limit bytes rules h = record { rules = rules; bytes_are = h.bytes_are; above = h.above }

  refused-unwritten : (limit : ℕ) (e : ComposeError) → broken_by table actions ≡ None → IsUnwritten actions limit e → IsRefusedOn table actions limit e
  refused-unwritten limit (fault.Broken b) rules h = absurd h
  refused-unwritten limit (fault.TimeEnd last) rules h = absurd h
  refused-unwritten limit (fault.TooLarge bytes) rules h = too-large limit bytes rules h
  refused-unwritten limit fault.Memory rules h = tt

  pub refused-if-unwritten : (limit : ℕ) (r : Result Composed ComposeError) → broken_by table actions ≡ None
      → IfErr r (λ e. IsUnwritten actions limit e) → IfErr r (λ e. IsRefusedOn table actions limit e)
  refused-if-unwritten limit (Ok made) rules h = tt
  refused-if-unwritten limit (Err e) rules h = refused-unwritten limit e rules h

  pub refused-judged : (limit : ℕ) (e : ComposeError) → IsJudged (Err e) (broken_by table actions) → IsRefusedOn table actions limit e
  refused-judged limit (fault.Broken b) h = h
  refused-judged limit (fault.TimeEnd last) h = absurd h
  refused-judged limit (fault.TooLarge bytes) h = absurd h
  refused-judged limit fault.Memory h = tt

-- the same where the actions and the time are known by another name
pub composed-alike : (table : Before) (l actions : List Action) (t time : ℤ) (limit : ℕ) (r : Result Composed ComposeError) → l ≡ actions → t ≡ time
    → broken_by table l ≡ None → IfOk r (λ c. IsWritten l t limit c) → IfOk r (λ c. IsComposedOn table actions time limit c)
composed-alike table l actions t time limit r same now rules h =
    let P : List Action → Type 0 = λ a. IfOk r (λ c. IsComposedOn table a time limit c) in
    let Q : ℤ → Type 0 = λ x. IfOk r (λ c. IsComposedOn table l x limit c) in
    subst P same (subst Q now (composed-if-written table l t limit r rules h))

pub refused-alike : (table : Before) (l actions : List Action) (limit : ℕ) (r : Result Composed ComposeError) → l ≡ actions
    → broken_by table l ≡ None → IfErr r (λ e. IsUnwritten l limit e) → IfErr r (λ e. IsRefusedOn table actions limit e)
refused-alike table l actions limit r same rules h =
    let P : List Action → Type 0 = λ a. IfErr r (λ e. IsRefusedOn table a limit e) in
    subst P same (refused-if-unwritten table l limit r rules h)

pub judged-alike : (table : Before) (l actions : List Action) (limit : ℕ) (e : ComposeError) → l ≡ actions → IsJudged (Err e) (broken_by table l)
    → IsRefusedOn table actions limit e
judged-alike table l actions limit e same h =
    let P : List Action → Type 0 = λ a. IsRefusedOn table a limit e in subst P same (refused-judged table l limit e h)
