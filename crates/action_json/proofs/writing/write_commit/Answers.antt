use Rattle.action_json.proofs.Answered.{reads_back_given}
use Rattle.action_json.proofs.writing.write_commit.Goals as goal

pub returns-clause-reads_back : goal.returns-clause-reads_back
returns-clause-reads_back c = reads_back_given (λ v. v.items) c.args.actions.now c.write_lines.result c.requires c.write_lines.ensures.text c.write_lines.ensures.written
