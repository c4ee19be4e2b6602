use Rattle.log_names.proofs.Digits.{version_is_text}
use Rattle.log_names.proofs.writing.put_version.Goals as goal

pub put_bytes-requires-clause-text : goal.put_bytes-requires-clause-text
put_bytes-requires-clause-text c = rw c.version_digits-digits.ensures (version_is_text c.args.version)
