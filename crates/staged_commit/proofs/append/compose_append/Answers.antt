use Rattle.std.proofs.Common.{ℤ, IfErr, IfOk, subst, w64}
use Rattle.std.proofs.lemmas.Int.{to_z-of_z}
use Rattle.table_rules.specs.Broken.{Before}
use Rattle.table_rules.proofs.Views.{seen-after}
use Rattle.table_rules.specs.Seen.{seen}
use Rattle.staged_commit.specs.Answers.{IsAppendRefusedOn, IsAppendedOn}
use Rattle.staged_commit.proofs.Answering.{passed-if}
use Rattle.staged_commit.proofs.append.compose_append.Goals as goal

pub returns-clause-ok : goal.returns-clause-ok
returns-clause-ok c = λ log h.
    let N : ℤ → Type 0 = λ t. IfOk c.compose_on.result (λ made. IsAppendedOn (seen c.args.state.now) c.args.intent.now c.args.id t c.args.limit made) in
    let P : Before → Type 0 = λ table. IfOk c.compose_on.result (λ made. IsAppendedOn table c.args.intent.now c.args.id c.args.now c.args.limit made) in
    subst P (seen-after c.args.state.now log h) (subst N (to_z-of_z w64 c.args.now c.ranges.now) c.compose_on.ensures.ok)

pub returns-clause-err : goal.returns-clause-err
returns-clause-err c = λ log h.
    let N : ℤ → Type 0 = λ t. IfErr c.compose_on.result (λ e. IsAppendRefusedOn (seen c.args.state.now) c.args.intent.now c.args.id t c.args.limit e) in
    let P : Before → Type 0 = λ table. IfErr c.compose_on.result (λ e. IsAppendRefusedOn table c.args.intent.now c.args.id c.args.now c.args.limit e) in
    subst P (seen-after c.args.state.now log h) (subst N (to_z-of_z w64 c.args.now c.ranges.now) c.compose_on.ensures.err)

pub returns-clause-limits : goal.returns-clause-limits
returns-clause-limits c = passed-if (seen c.args.state.now) c.args.intent.now c.args.id _ c.args.limit c.compose_on.result c.compose_on.ensures.err
