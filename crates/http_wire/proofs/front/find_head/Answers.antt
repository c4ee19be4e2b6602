-- What the parser says of the front is said of the bytes.
use Rattle.std.proofs.Common.{inr, ℕ, Err, ap, subst}
use Rattle.httparse.specs.Spans.{RequestExceeds}
use Rattle.http_wire.proofs.FrontLemmas.{part_of_head, long_head, has_room}
use Rattle.http_wire.proofs.front.find_head.Goals as goal

pub returns-then-bytes-lt-MAX_HEAD : goal.returns-then-bytes-lt-MAX_HEAD
returns-then-bytes-lt-MAX_HEAD c =
    part_of_head c.args.bytes.now _ c.head_room-front.ensures c.if-bytes-lt-MAX_HEAD.true (rw c.in-Ok-Partial.field-0-is at c.in-Ok-Partial.ensures.partial)
    (rw c.in-Ok-Partial.field-0-is at c.in-Ok-Partial.ensures.unfinished)

pub returns-else-bytes-lt-MAX_HEAD : goal.returns-else-bytes-lt-MAX_HEAD
returns-else-bytes-lt-MAX_HEAD c =
    inr (long_head c.args.bytes.now _ c.head_room-front.ensures c.if-bytes-lt-MAX_HEAD.false (rw c.in-Ok-Partial.field-0-is at c.in-Ok-Partial.ensures.partial)
    (rw c.in-Ok-Partial.field-0-is at c.in-Ok-Partial.ensures.unfinished))

pub returns-in-Err-TooManyHeaders : goal.returns-in-Err-TooManyHeaders
returns-in-Err-TooManyHeaders c =
    absurd
    (has_room c.args.bytes.now c.head_room-front.result.now c.head_room-front.ensures
    (subst (λ (n : ℕ). RequestExceeds n c.head_room-front.result.now) c.requires
    (c.in-Err-TooManyHeaders.ensures.too_many (ap Err c.in-Err-TooManyHeaders.field-0-is))))
