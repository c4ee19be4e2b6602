use Rattle.std.proofs.Common.{codes}
use Rattle.table_rules.proofs.TextTests.{contains_text-contains}
use Rattle.session_lines.proofs.member.speaks_of_invariants.Goals as goal

pub returns : goal.returns
returns c = contains_text-contains (codes "delta.invariants") c.args.text.now c.contains.result c.contains.ensures.cases
