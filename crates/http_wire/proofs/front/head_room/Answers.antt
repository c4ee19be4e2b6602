-- Bytes within the limit are all of the front.
use Rattle.std.proofs.Common.{sym}
use Rattle.http_wire.proofs.FrontLemmas.{take_short}
use Rattle.http_wire.proofs.front.head_room.Goals as goal

pub returns-then-bytes-lt-MAX_HEAD : goal.returns-then-bytes-lt-MAX_HEAD
returns-then-bytes-lt-MAX_HEAD c = sym (take_short c.args.bytes.now c.if-bytes-lt-MAX_HEAD.true)
