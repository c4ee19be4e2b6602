use Rattle.table_rules.proofs.TextTests.{contains_text-contains}
use Rattle.table_rules.proofs.texts.contains_text.Goals as goal

pub returns : goal.returns
returns c = contains_text-contains c.args.part.now c.args.text.now c.contains.result c.contains.ensures.cases
