use Rattle.std.proofs.Common.{◌∙◌}
use Rattle.std.specs.Option.{option_copied}
use Rattle.plain_replay.specs.Plain.{log_of}
use Rattle.plain_replay.proofs.Searching.{number_searched}
use Rattle.plain_replay.proofs.plain.number.Goals as goal

pub returns : goal.returns
returns c = c.as_number.ensures ∙ number_searched c.args.app (log_of c.args.commits.now) (option_copied c.last.result) c.last.ensures
