-- A list with nothing behind it, and lists one behind the other.
use Rattle.std.proofs.Common.{append-nil, append_assoc}

pub ruleset end_laws = (append-nil, append_assoc)
