use Rattle.table_rules.specs.Broken.{broken_by}
use Rattle.table_rules.specs.Seen.{seen}
use Rattle.staged_commit.proofs.write.checked.Goals as goal

pub returns : goal.returns
returns c = c.judged.ensures (broken_by (seen c.args.state.now) c.args.actions.now) c.check_next.ensures.in_state
