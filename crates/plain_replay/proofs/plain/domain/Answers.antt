use Rattle.std.proofs.Common.{◌∙◌}
use Rattle.std.specs.Option.{option_copied}
use Rattle.plain_replay.specs.Plain.{log_of}
use Rattle.plain_replay.proofs.Searching.{domain_searched}
use Rattle.plain_replay.proofs.plain.domain.Goals as goal

pub returns : goal.returns
returns c = c.as_domain.ensures ∙ domain_searched c.args.name (log_of c.args.commits.now) (option_copied c.last.result) c.last.ensures
