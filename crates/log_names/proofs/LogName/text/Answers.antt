use Rattle.std.proofs.Common.{arith, sym, ◌∙◌}
use Rattle.log_names.proofs.Forms.{reads_published, reads_staged, reads_checkpoint}
use Rattle.log_names.proofs.LogName.text.Goals as goal

pub returns-in-Published-clause-reads_back : goal.returns-in-Published-clause-reads_back
returns-in-Published-clause-reads_back c =
    reads_published c.published.result c.in-Published.version (omega arith) c.published.ensures ∙ sym c.in-Published.is

pub returns-in-Staged-clause-reads_back : goal.returns-in-Staged-clause-reads_back
returns-in-Staged-clause-reads_back c =
    reads_staged c.staged.result c.in-Staged.version c.in-Staged.id (omega arith) (omega arith) c.staged.ensures ∙ sym c.in-Staged.is

pub returns-in-Checkpoint-clause-reads_back : goal.returns-in-Checkpoint-clause-reads_back
returns-in-Checkpoint-clause-reads_back c =
    reads_checkpoint c.checkpoint.result c.in-Checkpoint.version c.in-Checkpoint.id (omega arith) (omega arith) c.checkpoint.ensures
    ∙ sym c.in-Checkpoint.is
