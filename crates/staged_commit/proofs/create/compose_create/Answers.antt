use Rattle.std.proofs.Common.{◌≡◌, ℤ, List, [], None, subst, sym, ap, ◌∙◌, w64}
use Rattle.std.proofs.lemmas.Int.{to_z-of_z}
use Rattle.std.proofs.lemmas.Result.{err_from_is_err_and}
use Rattle.action_types.specs.declared.actions.Action.{Action}
use Rattle.action_json.specs.Commit.{IsCommit}
use Rattle.table_rules.specs.Broken.{Tells, after, first_broken}
use Rattle.staged_commit.specs.Composed.{composed_create}
use Rattle.staged_commit.proofs.Composing.{reads-back, text-on}
use Rattle.staged_commit.proofs.Readable.{create-commit}
use Rattle.staged_commit.proofs.Written.{judged-alike, refused-alike}
use Rattle.staged_commit.proofs.create.compose_create.Goals as goal

pub returns-in_err-judged-clause-err : goal.returns-in_err-judged-clause-err
returns-in_err-judged-clause-err c =
    let P : List Action → Type 0 = λ l. Tells c.check_create.result (first_broken [] l) in
    let made : c.in_ok-actions.actions.items ≡ composed_create c.args.create.now c.args.id c.args.now =
    c.in_ok-actions.ensures ∙ ap (composed_create c.args.create.now c.args.id) (to_z-of_z w64 c.args.now c.ranges.now) in
    let p = err_from_is_err_and c.from_residual-in_err-judged.result c.from_residual-in_err-judged.ensures.1 in
    rw (p.1, p.2)
    (judged-alike (after []) c.in_ok-actions.actions.items _ c.args.limit c.in_err-judged.field-0.0 made
    (c.in_err-judged.ensures (first_broken [] c.in_ok-actions.actions.items) (subst P c.deref.ensures.value c.check_create.ensures)))

pub returns-clause-ok : goal.returns-clause-ok
returns-clause-ok c =
    let P : List Action → Type 0 = λ l. Tells c.check_create.result (first_broken [] l) in
    let made : c.in_ok-actions.actions.items ≡ composed_create c.args.create.now c.args.id c.args.now =
    c.in_ok-actions.ensures ∙ ap (composed_create c.args.create.now c.args.id) (to_z-of_z w64 c.args.now c.ranges.now) in
    let rules : first_broken [] c.in_ok-actions.actions.items ≡ None =
    c.in_ok-judged.ensures (first_broken [] c.in_ok-actions.actions.items) (subst P c.deref.ensures.value c.check_create.ensures) in
    text-on (after []) c.in_ok-actions.actions.items _ _ c.args.now c.args.limit c.limited.result made (to_z-of_z w64 c.args.now c.ranges.now) rules c.limited.ensures.ok

pub returns-clause-err : goal.returns-clause-err
returns-clause-err c =
    let P : List Action → Type 0 = λ l. Tells c.check_create.result (first_broken [] l) in
    let made : c.in_ok-actions.actions.items ≡ composed_create c.args.create.now c.args.id c.args.now =
    c.in_ok-actions.ensures ∙ ap (composed_create c.args.create.now c.args.id) (to_z-of_z w64 c.args.now c.ranges.now) in
    let rules : first_broken [] c.in_ok-actions.actions.items ≡ None =
    c.in_ok-judged.ensures (first_broken [] c.in_ok-actions.actions.items) (subst P c.deref.ensures.value c.check_create.ensures) in
    refused-alike (after []) c.in_ok-actions.actions.items _ c.args.limit c.limited.result made rules c.limited.ensures.err

pub returns-clause-reads_back : goal.returns-clause-reads_back
returns-clause-reads_back c = λ texts.
    let P : List Action → Type 0 = λ l. IsCommit l in
    let made : c.in_ok-actions.actions.items ≡ composed_create c.args.create.now c.args.id c.args.now =
    c.in_ok-actions.ensures ∙ ap (composed_create c.args.create.now c.args.id) (to_z-of_z w64 c.args.now c.ranges.now) in
    reads-back c.in_ok-actions.actions.items _ c.args.limit c.limited.result
    (subst P (sym made) (create-commit c.args.create.now c.args.id c.args.now c.requires.now texts)) c.limited.ensures.ok c.limited.ensures.written
