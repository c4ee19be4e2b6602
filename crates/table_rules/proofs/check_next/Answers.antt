use Rattle.std.proofs.Common.{subst}
use Rattle.table_rules.specs.Broken.{Before, Tells, broken_by}
use Rattle.table_rules.proofs.Views.{seen-after}
use Rattle.table_rules.proofs.check_next.Goals as goal

pub returns-clause-of_log : goal.returns-clause-of_log
returns-clause-of_log c = λ log stands.
    let P : Before → Type 0 = λ table. Tells c.check_state.result (broken_by table c.args.actions.now) in
    subst P (seen-after c.args.state.now log stands) c.check_state.ensures
