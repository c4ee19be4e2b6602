use Rattle.std.proofs.Common.{sym, ◌∙◌}
use Rattle.reconcile.specs.Replay.{time_of_log}
use Rattle.table_rules.specs.Broken.{after}
use Rattle.staged_commit.proofs.Appends.{on-time}
use Rattle.staged_commit.proofs.Looking.{numbered-judged, write-judged}
use Rattle.staged_commit.proofs.laws.a_write_with_a_later_number_is_a_next_commit.Goals as goal

pub returns : goal.returns
returns c = λ log intent id now time keeps next number.
    numbered-judged (after log) intent id time (on-time (time_of_log log) now time next) number
    ∙ sym (write-judged (after log) intent id time) ∙ keeps id time
