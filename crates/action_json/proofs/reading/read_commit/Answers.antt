use Rattle.action_json.proofs.Answered.{text_given, flaw_given, refused_given, commit_given}
use Rattle.action_json.proofs.reading.read_commit.Goals as goal

pub returns-clause-text : goal.returns-clause-text
returns-clause-text c = text_given (λ v. v.items) c.args.bytes.now c.read_actions.result c.read_actions.ensures

pub returns-clause-flaw : goal.returns-clause-flaw
returns-clause-flaw c = flaw_given (λ v. v.items) c.args.bytes.now c.read_actions.result c.read_actions.ensures

pub returns-clause-refused : goal.returns-clause-refused
returns-clause-refused c = refused_given (λ v. v.items) c.args.bytes.now c.read_actions.result c.read_actions.ensures

pub returns-clause-commit : goal.returns-clause-commit
returns-clause-commit c = commit_given (λ v. v.items) c.args.bytes.now c.read_actions.result c.read_actions.ensures
