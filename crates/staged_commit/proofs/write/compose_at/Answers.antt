use Rattle.std.proofs.Common.{◌≡◌, ℤ, List, IfOk, sym, subst, w64}
use Rattle.std.proofs.lemmas.Int.{to_z-of_z}
use Rattle.std.proofs.lemmas.Result.{err_from_is_err_and}
use Rattle.action_types.specs.declared.actions.Action.{Action}
use Rattle.action_json.specs.Commit.{IsCommit}
use Rattle.reconcile.specs.Standing.{meta_in}
use Rattle.table_rules.specs.Seen.{seen}
use Rattle.staged_commit.specs.WriteAnswers.{IsComposedAt, IsText}
use Rattle.staged_commit.proofs.Composing.{reads-back, refused-at, refused-judged, written-at}
use Rattle.staged_commit.proofs.Readable.{write-commit}
use Rattle.staged_commit.proofs.write.compose_at.Goals as goal

pub returns-in_err-actions-clause-err : goal.returns-in_err-actions-clause-err
returns-in_err-actions-clause-err c =
    let p = err_from_is_err_and c.from_residual.result c.from_residual.ensures.1 in
    rw (p.1, p.2) (refused-judged (seen c.args.state.now) c.args.intent.now c.args.id c.args.limit c.args.time c.in_err-actions.field-0.0 c.in_err-actions.ensures.err)

pub returns-clause-ok : goal.returns-clause-ok
returns-clause-ok c =
    let same = to_z-of_z w64 c.args.time c.ranges.time in
    let P : ℤ → Type 0 = λ t. IsComposedAt (seen c.args.state.now) c.args.intent.now c.args.id t c.in_ok-actions.actions.items in
    let Q : ℤ → Type 0 = λ t. IfOk c.limited.result (λ made. IsText c.in_ok-actions.actions.items t c.args.limit made) in
    written-at (seen c.args.state.now) c.args.intent.now c.args.id c.args.limit c.args.time c.in_ok-actions.actions.items c.limited.result
    (subst P same c.in_ok-actions.ensures.ok) (subst Q same c.limited.ensures.ok)

pub returns-clause-err : goal.returns-clause-err
returns-clause-err c =
    let P : ℤ → Type 0 = λ t. IsComposedAt (seen c.args.state.now) c.args.intent.now c.args.id t c.in_ok-actions.actions.items in
    refused-at (seen c.args.state.now) c.args.intent.now c.args.id c.args.limit c.args.time c.in_ok-actions.actions.items c.limited.result
    (subst P (to_z-of_z w64 c.args.time c.ranges.time) c.in_ok-actions.ensures.ok) c.limited.ensures.err

pub returns-clause-reads_back : goal.returns-clause-reads_back
returns-clause-reads_back c = λ readable.
    let P : ℤ → Type 0 = λ t. IsComposedAt (seen c.args.state.now) c.args.intent.now c.args.id t c.in_ok-actions.actions.items in
    let composed = subst P (to_z-of_z w64 c.args.time c.ranges.time) c.in_ok-actions.ensures.ok in
    let C : List Action → Type 0 = λ l. IsCommit l in
    reads-back c.in_ok-actions.actions.items _ c.args.limit c.limited.result
    (subst C (sym composed.actions_are) (write-commit (meta_in c.args.state.now) c.args.intent.now c.args.id c.args.time c.requires.time readable))
    c.limited.ensures.ok c.limited.ensures.written
