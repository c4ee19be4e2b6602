use Rattle.std.proofs.Common.{◌≡◌, ℤ, Err, IfErr, IfOk, Some, rules, sym, subst, ap, ap₂, ◌∙◌, of_z, to_z, w64}
use Rattle.std.proofs.lemmas.Int.{to_z-of_z}
use Rattle.std.proofs.lemmas.Result.{err_from_is_err_and}
use Rattle.commit_timestamps.specs.Times.{next_time}
use Rattle.reconcile.specs.Standing.{time_in}
use Rattle.table_rules.specs.Broken.{broken_by}
use Rattle.table_rules.specs.Seen.{seen}
use Rattle.staged_commit.specs.Answers.{IsComposedOn, IsJudged, IsRefusedOn}
use Rattle.staged_commit.specs.Composed.{composed_append}
use Rattle.staged_commit.specs.Rules.{without_time}
use Rattle.staged_commit.proofs.Answering.{appended-if, refused-at-the-end, refused-if, time-end}
use Rattle.staged_commit.proofs.append.compose_on.Goals as goal

pub returns-in_err-check_at_the_end-in-Err-clause-err : goal.returns-in_err-check_at_the_end-in-Err-clause-err
returns-in_err-check_at_the_end-in-Err-clause-err c =
    let P : ℤ → Type 0 = λ t.
    IsJudged (Err c.in_err-check_at_the_end-in-Err.field-0.0) (broken_by (without_time (seen c.args.state.now)) (composed_append c.args.intent.now c.args.id t)) in
    let p = err_from_is_err_and c.from_residual.result c.from_residual.ensures.1 in
    rw (p.1, p.2)
    (refused-at-the-end (seen c.args.state.now) c.args.intent.now c.args.id c.args.now c.args.limit c.in-Err.end.last
    c.in_err-check_at_the_end-in-Err.field-0.0 (subst P (to_z-of_z w64 c.in-Err.end.last (search rules)) c.in_err-check_at_the_end-in-Err.ensures))

pub returns-in-Ok-clause-ok : goal.returns-in-Ok-clause-ok
returns-in-Ok-clause-ok c =
    let P : ℤ → Type 0 = λ t.
    IfOk c.compose_at.result (λ made. IsComposedOn (seen c.args.state.now) (composed_append c.args.intent.now c.args.id t) t c.args.limit made) in
    let next : next_time (time_in c.args.state.now) c.args.now ≡ Some c.in-Ok.time =
    ap₂ next_time (sym c.time.ensures) (sym (to_z-of_z w64 c.args.now c.ranges.now)) ∙ c.in-Ok.ensures.time in
    appended-if (seen c.args.state.now) c.args.intent.now c.args.id c.args.now c.args.limit c.in-Ok.time c.compose_at.result next
    (subst P (to_z-of_z w64 c.in-Ok.time (search rules)) c.compose_at.ensures.ok)

pub returns-in-Ok-clause-err : goal.returns-in-Ok-clause-err
returns-in-Ok-clause-err c =
    let P : ℤ → Type 0 = λ t. IfErr c.compose_at.result (λ e. IsRefusedOn (seen c.args.state.now) (composed_append c.args.intent.now c.args.id t) c.args.limit e) in
    let next : next_time (time_in c.args.state.now) c.args.now ≡ Some c.in-Ok.time =
    ap₂ next_time (sym c.time.ensures) (sym (to_z-of_z w64 c.args.now c.ranges.now)) ∙ c.in-Ok.ensures.time in
    refused-if (seen c.args.state.now) c.args.intent.now c.args.id c.args.now c.args.limit c.in-Ok.time c.compose_at.result next
    (subst P (to_z-of_z w64 c.in-Ok.time (search rules)) c.compose_at.ensures.err)

pub returns-in_ok-check_at_the_end-in-Err-clause-err : goal.returns-in_ok-check_at_the_end-in-Err-clause-err
returns-in_ok-check_at_the_end-in-Err-clause-err c =
    let same : to_z w64 (of_z w64 c.in-Err.end.last) ≡ c.in-Err.end.last = to_z-of_z w64 c.in-Err.end.last (search rules) in
    time-end (seen c.args.state.now) c.args.intent.now c.args.id c.args.now c.args.limit (to_z w64 (of_z w64 c.in-Err.end.last))
    c.in_ok-check_at_the_end-in-Err.ensures
    (sym c.time.ensures ∙ c.in-Err.ensures.time_end.0 ∙ ap Some (sym same)) (same ∙ c.in-Err.ensures.time_end.1)
