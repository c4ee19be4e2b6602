use Rattle.std.proofs.Common.{◌∙◌}
use Rattle.reconcile.proofs.Listing.{tombstones_in-log}
use Rattle.reconcile.proofs.state.State.tombstones.Goals as goal

pub returns-clause-of_log : goal.returns-clause-of_log
returns-clause-of_log c = λ log h. c.files.ensures ∙ tombstones_in-log c.args.self.now log h
