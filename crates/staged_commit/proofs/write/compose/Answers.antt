use Rattle.std.proofs.Common.{ℤ, subst, w64}
use Rattle.std.proofs.lemmas.Int.{to_z-of_z}
use Rattle.table_rules.specs.Broken.{Before}
use Rattle.table_rules.specs.Seen.{seen}
use Rattle.table_rules.proofs.Views.{seen-after}
use Rattle.staged_commit.specs.WriteAnswers.{Composes}
use Rattle.staged_commit.proofs.write.compose.Goals as goal

pub returns-clause-in_state : goal.returns-clause-in_state
returns-clause-in_state c =
    let N : ℤ → Type 0 = λ t. Composes (seen c.args.state.now) c.args.intent.now c.args.id t c.args.limit c.compose_on.result in
    subst N (to_z-of_z w64 c.args.now c.ranges.now) c.compose_on.ensures.in_state

pub returns-clause-in_log : goal.returns-clause-in_log
returns-clause-in_log c = λ log h.
    let N : ℤ → Type 0 = λ t. Composes (seen c.args.state.now) c.args.intent.now c.args.id t c.args.limit c.compose_on.result in
    let P : Before → Type 0 = λ table. Composes table c.args.intent.now c.args.id c.args.now c.args.limit c.compose_on.result in
    subst P (seen-after c.args.state.now log h) (subst N (to_z-of_z w64 c.args.now c.ranges.now) c.compose_on.ensures.in_state)
