use Rattle.std.proofs.Common.{ℤ, [], IfOk, IfErr, ap, subst, w64}
use Rattle.std.proofs.lemmas.Int.{to_z-of_z}
use Rattle.action_fields.specs.Valid.{are_texts}
use Rattle.table_rules.specs.Broken.{after}
use Rattle.staged_commit.specs.Answers.{IsComposed, IsRefused}
use Rattle.staged_commit.specs.Composed.{composed_create}
use Rattle.staged_commit.proofs.Composing.{text-composed}
use Rattle.staged_commit.proofs.create.compose_first.Goals as goal

pub returns-clause-ok : goal.returns-clause-ok
returns-clause-ok c =
    let P : ℤ → Type 0 = λ t. IfOk c.compose_create.result (λ made. IsComposed [] (composed_create c.args.create.now c.args.id t) t c.args.limit made) in
    subst P (to_z-of_z w64 c.args.now c.ranges.now)
    (text-composed (after []) _ _ c.args.limit c.compose_create.result c.compose_create.ensures.ok (c.compose_create.ensures.reads_back (ap are_texts c.requires.valid.configuration)))

pub returns-clause-err : goal.returns-clause-err
returns-clause-err c =
    let P : ℤ → Type 0 = λ t. IfErr c.compose_create.result (λ e. IsRefused [] (composed_create c.args.create.now c.args.id t) c.args.limit e) in
    subst P (to_z-of_z w64 c.args.now c.ranges.now) c.compose_create.ensures.err
