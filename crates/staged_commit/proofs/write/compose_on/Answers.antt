use Rattle.std.proofs.Common.{◌≡◌, ℤ, Err, IfErr, IfOk, None, Some, rules, sym, subst, ap, ap₂, ◌∙◌, of_z, to_z, w64}
use Rattle.std.proofs.lemmas.Int.{to_z-of_z}
use Rattle.std.proofs.lemmas.Result.{err_from_is_err_and}
use Rattle.commit_timestamps.specs.Times.{next_time}
use Rattle.reconcile.specs.Standing.{time_in}
use Rattle.table_rules.specs.Broken.{not_after}
use Rattle.table_rules.specs.Seen.{seen}
use Rattle.staged_commit.specs.WriteAnswers.{IsWrittenAt, RefusesAt}
use Rattle.staged_commit.proofs.Appends.{on-time}
use Rattle.staged_commit.proofs.Composing.{composes-judged, composes-next}
use Rattle.staged_commit.proofs.write.compose_on.Goals as goal

pub compose_at-requires-clause-later : goal.compose_at-requires-clause-later
compose_at-requires-clause-later c =
    let next : next_time (time_in c.args.state.now) c.args.now ≡ Some c.in-Ok.time =
    ap₂ next_time (sym c.time.ensures) (sym (to_z-of_z w64 c.args.now c.ranges.now)) ∙ c.in-Ok.ensures.time in
    ap (λ t. not_after (time_in c.args.state.now) (Some t)) (to_z-of_z w64 c.in-Ok.time (search rules))
    ∙ on-time (time_in c.args.state.now) c.args.now c.in-Ok.time next

pub returns-in-Ok-clause-in_state : goal.returns-in-Ok-clause-in_state
returns-in-Ok-clause-in_state c =
    let same : to_z w64 (of_z w64 c.in-Ok.time) ≡ c.in-Ok.time = to_z-of_z w64 c.in-Ok.time (search rules) in
    let P : ℤ → Type 0 = λ t. IfOk c.compose_at.result (λ made. IsWrittenAt (seen c.args.state.now) c.args.intent.now c.args.id t c.args.limit made) in
    let Q : ℤ → Type 0 = λ t. IfErr c.compose_at.result (λ e. RefusesAt (seen c.args.state.now) c.args.intent.now c.args.id t c.args.limit e) in
    let next : next_time (time_in c.args.state.now) c.args.now ≡ Some c.in-Ok.time =
    ap₂ next_time (sym c.time.ensures) (sym (to_z-of_z w64 c.args.now c.ranges.now)) ∙ c.in-Ok.ensures.time in
    composes-next (seen c.args.state.now) c.args.intent.now c.args.id c.args.limit c.args.now c.in-Ok.time c.compose_at.result next
    (subst P same c.compose_at.ensures.ok) (subst Q same c.compose_at.ensures.err)

pub returns-in_err-check_at_the_end-in-Err-clause-in_state : goal.returns-in_err-check_at_the_end-in-Err-clause-in_state
returns-in_err-check_at_the_end-in-Err-clause-in_state c =
    let p = err_from_is_err_and c.from_residual.result c.from_residual.ensures.1 in
    rw (p.1, p.2)
    (composes-judged (seen c.args.state.now) c.args.intent.now c.args.id c.args.limit c.args.now c.in_err-check_at_the_end-in-Err.field-0.0 c.in_err-check_at_the_end-in-Err.ensures.err)

pub returns-in_ok-check_at_the_end-in-Err-clause-in_state : goal.returns-in_ok-check_at_the_end-in-Err-clause-in_state
returns-in_ok-check_at_the_end-in-Err-clause-in_state c =
    let same : to_z w64 (of_z w64 c.in-Err.end.last) ≡ c.in-Err.end.last = to_z-of_z w64 c.in-Err.end.last (search rules) in
    record {
      rules = c.in_ok-check_at_the_end-in-Err.ensures.ok;
      last_time = sym c.time.ensures ∙ c.in-Err.ensures.time_end.0 ∙ ap Some (sym same);
      at_the_end = same ∙ c.in-Err.ensures.time_end.1;
    }
