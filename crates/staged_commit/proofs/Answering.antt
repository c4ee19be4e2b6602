-- What the steps of composing an append say together.
use Rattle.std.proofs.Common.{◌≡◌, ℕ, ℤ, Some, None, Result, Ok, Err, IfOk, IfErr, sym, ap, ◌∙◌, subst}
use Rattle.commit_timestamps.specs.Times.{end_of_time, next_time}
use Rattle.conflict_rules.specs.declared.intent.Intent.{Intent}
use Rattle.table_rules.specs.Broken.{Before, broken_by}
use Rattle.staged_commit.specs.Answers.{HasPassed, IsAppendRefusedOn, IsAppendedOn, IsComposedOn, IsJudged, IsRefusedOn, IsTimeEndOn}
use Rattle.staged_commit.specs.Composed.{composed_append}
use Rattle.staged_commit.specs.Rules.{without_time}
use Rattle.staged_commit.specs.declared.commit.Composed.{Composed}
use Rattle.staged_commit.specs.declared.fault.ComposeError.{ComposeError}
use Rattle.staged_commit.specs.declared.fault.ComposeError.TheVariants as fault
use Rattle.staged_commit.proofs.Appends.{append-time, same-at-any-time, same-at-next-time}

module _ (table : Before) (intent : Intent) (id : ℕ) (now : ℤ) (limit : ℕ) where
  -- ---- at the next time

  appended : (time : ℤ) (made : Composed) → next_time table.time now ≡ Some time → IsComposedOn table (composed_append intent id time) time limit made
      → IsAppendedOn table intent id now limit made
  appended time made next h =
      let P : ℤ → Type 0 = λ t. IsComposedOn table (composed_append intent id t) t limit made in
      record { next = next ∙ ap Some (sym h.time_is); composed = subst P (sym h.time_is) h }

  pub appended-if : (time : ℤ) (r : Result Composed ComposeError) → next_time table.time now ≡ Some time
      → IfOk r (λ c. IsComposedOn table (composed_append intent id time) time limit c) → IfOk r (λ c. IsAppendedOn table intent id now limit c)
  appended-if time (Ok made) next h = appended time made next h
  appended-if time (Err e) next h = tt

  refused : (time : ℤ) (e : ComposeError) → next_time table.time now ≡ Some time → IsRefusedOn table (composed_append intent id time) limit e
      → IsAppendRefusedOn table intent id now limit e
  refused time (fault.Broken b) next h = λ t.
      same-at-any-time intent table id id t time
      ∙ sym (same-at-next-time table (composed_append intent id time) now time next (append-time intent id time)) ∙ h
  refused time (fault.TimeEnd last) next h = absurd h
  refused time (fault.TooLarge bytes) next h = record { time = time; next = next; large = h }
  refused time fault.Memory next h = tt

  pub refused-if : (time : ℤ) (r : Result Composed ComposeError) → next_time table.time now ≡ Some time
      → IfErr r (λ e. IsRefusedOn table (composed_append intent id time) limit e) → IfErr r (λ e. IsAppendRefusedOn table intent id now limit e)
  refused-if time (Ok made) next h = tt
  refused-if time (Err e) next h = refused time e next h

  -- ---- at the end of time

  pub time-end : (last : ℤ) → broken_by (without_time table) (composed_append intent id last) ≡ None → table.time ≡ Some last → last ≡ end_of_time
      → IsTimeEndOn table intent id last
  time-end last h is end = record { rules = λ t. same-at-any-time intent table id id t last ∙ h; last_time = is; at_the_end = end }

  pub refused-at-the-end : (last : ℤ) (e : ComposeError) → IsJudged (Err e) (broken_by (without_time table) (composed_append intent id last))
      → IsAppendRefusedOn table intent id now limit e
  refused-at-the-end last (fault.Broken b) h = λ t. same-at-any-time intent table id id t last ∙ h
  refused-at-the-end last (fault.TimeEnd t) h = absurd h
  refused-at-the-end last (fault.TooLarge bytes) h = absurd h
  refused-at-the-end last fault.Memory h = tt

  -- ---- whatever the log

  passed : (e : ComposeError) → IsAppendRefusedOn table intent id now limit e → HasPassed limit e
  passed (fault.Broken b) h = tt
  passed (fault.TimeEnd last) h = h.at_the_end
  passed (fault.TooLarge bytes) h = h.large.above
  passed fault.Memory h = tt

  pub passed-if : (r : Result Composed ComposeError) → IfErr r (λ e. IsAppendRefusedOn table intent id now limit e) → IfErr r (λ e. HasPassed limit e)
  passed-if (Ok made) h = tt
  passed-if (Err e) h = passed e h
