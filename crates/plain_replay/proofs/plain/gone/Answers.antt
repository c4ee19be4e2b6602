use Rattle.std.proofs.Common.{◌∙◌, ap}
use Rattle.std.specs.Prelude.{option_map}
use Rattle.std.specs.Option.{option_copied}
use Rattle.plain_replay.specs.Plain.{kept_tombstone, log_of}
use Rattle.plain_replay.proofs.Searching.{gone_searched}
use Rattle.plain_replay.proofs.plain.gone.Goals as goal

pub returns : goal.returns
returns c = ap (option_map kept_tombstone) c.as_remove.ensures ∙ gone_searched c.args.key (log_of c.args.commits.now) (option_copied c.last.result) c.last.ensures
