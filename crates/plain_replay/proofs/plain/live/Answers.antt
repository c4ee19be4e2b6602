use Rattle.std.proofs.Common.{◌∙◌, ap}
use Rattle.std.specs.Prelude.{option_map}
use Rattle.std.specs.Option.{option_copied}
use Rattle.plain_replay.specs.Plain.{kept, log_of}
use Rattle.plain_replay.proofs.Searching.{live_searched}
use Rattle.plain_replay.proofs.plain.live.Goals as goal

pub returns : goal.returns
returns c = ap (option_map kept) c.as_add.ensures ∙ live_searched c.args.key (log_of c.args.commits.now) (option_copied c.last.result) c.last.ensures
