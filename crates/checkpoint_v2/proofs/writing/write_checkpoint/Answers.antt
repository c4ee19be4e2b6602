use Rattle.checkpoint_v2.proofs.Written.{of_logs_written}
use Rattle.checkpoint_v2.proofs.writing.write_checkpoint.Goals as goal

pub returns-clause-of_logs : goal.returns-clause-of_logs
returns-clause-of_logs c =
    of_logs_written (λ v. v.items) c.args.version c.args.state.now c.write_lines.result c.ranges.version.fits c.requires c.write_lines.ensures.text c.write_lines.ensures.utf8 c.write_lines.ensures.written
