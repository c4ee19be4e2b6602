use Rattle.std.proofs.Common.{◌≡◌, Option, option_map, subst}
use Rattle.action_types.specs.declared.actions.Add.{Add}
use Rattle.action_types.specs.Files.{File}
use Rattle.conflict_rules.specs.Conflict.{said, conflict_by}
use Rattle.conflict_rules.proofs.Views.{live_in-files}
use Rattle.conflict_rules.proofs.conflict.first_conflict.Goals as goal

pub returns-clause-of_log : goal.returns-clause-of_log
returns-clause-of_log c = λ log stands.
    let P : (File → Option Add) → Type 0 = λ live. option_map said c.first_rule.result ≡ conflict_by c.args.intent.now live c.args.winner.now in
    subst P (live_in-files c.args.base.now log stands) c.first_rule.ensures
