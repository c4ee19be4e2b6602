use Rattle.action_json.proofs.Commits.{commit-outcome}
use Rattle.action_json.proofs.laws.readings_are_commits.Goals as goal

pub returns : goal.returns
returns c = commit-outcome
