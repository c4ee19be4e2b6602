use Rattle.std.proofs.Common.{◌≡◌, ℤ, List, None, subst, sym, ap, ◌∙◌, w64}
use Rattle.std.proofs.lemmas.Int.{to_z-of_z}
use Rattle.std.proofs.lemmas.Result.{err_from_is_err_and}
use Rattle.action_types.specs.declared.actions.Action.{Action}
use Rattle.action_json.specs.Commit.{IsCommit}
use Rattle.table_rules.specs.Broken.{Tells, broken_by}
use Rattle.table_rules.specs.Seen.{seen}
use Rattle.staged_commit.specs.Composed.{composed_append}
use Rattle.staged_commit.proofs.Commits.{append-commit}
use Rattle.staged_commit.proofs.Written.{composed-alike, judged-alike, refused-alike}
use Rattle.staged_commit.proofs.append.compose_at.Goals as goal

pub written-requires : goal.written-requires
written-requires c =
    let P : List Action → Type 0 = λ l. IsCommit l in
    let Q : ℤ → Type 0 = λ t. IsCommit (composed_append c.args.intent.now c.args.id t) in
    subst P (sym c.in_ok-actions.ensures)
    (subst Q (sym (to_z-of_z w64 c.args.time c.ranges.time)) (append-commit c.args.intent.now c.args.id c.args.time c.requires.time c.requires.append))

pub returns-in_err-judged-clause-err : goal.returns-in_err-judged-clause-err
returns-in_err-judged-clause-err c =
    let P : List Action → Type 0 = λ l. Tells c.check_next.result (broken_by (seen c.args.state.now) l) in
    let made : c.in_ok-actions.actions.items ≡ composed_append c.args.intent.now c.args.id c.args.time =
    c.in_ok-actions.ensures ∙ ap (composed_append c.args.intent.now c.args.id) (to_z-of_z w64 c.args.time c.ranges.time) in
    let p = err_from_is_err_and c.from_residual-in_err-judged.result c.from_residual-in_err-judged.ensures.1 in
    rw (p.1, p.2)
    (judged-alike (seen c.args.state.now) c.in_ok-actions.actions.items _ c.args.limit c.in_err-judged.field-0.0 made
    (c.in_err-judged.ensures (broken_by (seen c.args.state.now) c.in_ok-actions.actions.items) (subst P c.deref.ensures.value c.check_next.ensures.in_state)))

pub returns-clause-ok : goal.returns-clause-ok
returns-clause-ok c =
    let P : List Action → Type 0 = λ l. Tells c.check_next.result (broken_by (seen c.args.state.now) l) in
    let made : c.in_ok-actions.actions.items ≡ composed_append c.args.intent.now c.args.id c.args.time =
    c.in_ok-actions.ensures ∙ ap (composed_append c.args.intent.now c.args.id) (to_z-of_z w64 c.args.time c.ranges.time) in
    let rules : broken_by (seen c.args.state.now) c.in_ok-actions.actions.items ≡ None =
    c.in_ok-judged.ensures (broken_by (seen c.args.state.now) c.in_ok-actions.actions.items) (subst P c.deref.ensures.value c.check_next.ensures.in_state) in
    composed-alike (seen c.args.state.now) c.in_ok-actions.actions.items _ _ c.args.time c.args.limit c.written.result made (to_z-of_z w64 c.args.time c.ranges.time) rules
    c.written.ensures.ok

pub returns-clause-err : goal.returns-clause-err
returns-clause-err c =
    let P : List Action → Type 0 = λ l. Tells c.check_next.result (broken_by (seen c.args.state.now) l) in
    let made : c.in_ok-actions.actions.items ≡ composed_append c.args.intent.now c.args.id c.args.time =
    c.in_ok-actions.ensures ∙ ap (composed_append c.args.intent.now c.args.id) (to_z-of_z w64 c.args.time c.ranges.time) in
    let rules : broken_by (seen c.args.state.now) c.in_ok-actions.actions.items ≡ None =
    c.in_ok-judged.ensures (broken_by (seen c.args.state.now) c.in_ok-actions.actions.items) (subst P c.deref.ensures.value c.check_next.ensures.in_state) in
    refused-alike (seen c.args.state.now) c.in_ok-actions.actions.items _ c.args.limit c.written.result made rules c.written.ensures.err
