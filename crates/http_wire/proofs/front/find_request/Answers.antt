-- The head is on the front; it is refused, or its body is not there yet, or the request is taken.
use Rattle.std.proofs.Common.{◌+◌, ◌≤◌, inl, inr, length, arith}
use Rattle.http_wire.proofs.FrontLemmas.{on_front, are_texts, refused_head, lacks_body, request_taken}
use Rattle.http_wire.proofs.front.find_request.Goals as goal

pub returns-in-Err-head_size : goal.returns-in-Err-head_size
returns-in-Err-head_size c =
    let on = on_front c.args.bytes.now c.head_room-front.result.now c.find_head.new.headers c.in-Ok-Some.spans c.head_room-front.ensures
    (rw c.in-Ok-Some.field-0-is at c.in-Ok-Some.ensures) in
    inl (refused_head c.args.limit c.in-Err-head_size.status _ _ _ _ on (c.in-Err-head_size.ensures on.h on.at))

pub overflow_sub-bytes : goal.overflow_sub-bytes
overflow_sub-bytes c =
    let on = on_front c.args.bytes.now c.head_room-front.result.now c.find_head.new.headers c.in-Ok-Some.spans c.head_room-front.ensures
    (rw c.in-Ok-Some.field-0-is at c.in-Ok-Some.ensures) in
    on.len_fits

pub returns-then-bytes-spans : goal.returns-then-bytes-spans
returns-then-bytes-spans c =
    let on = on_front c.args.bytes.now c.head_room-front.result.now c.find_head.new.headers c.in-Ok-Some.spans c.head_room-front.ensures
    (rw c.in-Ok-Some.field-0-is at c.in-Ok-Some.ensures) in
    inr (lacks_body c.args.limit c.in-Ok.size _ _ _ _ on (c.in-Ok.ensures on.h on.at) (omega (arith, on.len_fits)))

pub take_whole-requires-clause-head : goal.take_whole-requires-clause-head
take_whole-requires-clause-head c =
    let on = on_front c.args.bytes.now c.head_room-front.result.now c.find_head.new.headers c.in-Ok-Some.spans c.head_room-front.ensures
    (rw c.in-Ok-Some.field-0-is at c.in-Ok-Some.ensures) in
    are_texts _ _ _ on.h on.within on.at

pub take_whole-requires-clause-fits : goal.take_whole-requires-clause-fits
take_whole-requires-clause-fits c =
    let on = on_front c.args.bytes.now c.head_room-front.result.now c.find_head.new.headers c.in-Ok-Some.spans c.head_room-front.ensures
    (rw c.in-Ok-Some.field-0-is at c.in-Ok-Some.ensures) in
    omega (arith, on.len_fits)

pub returns : goal.returns
returns c =
    let on = on_front c.args.bytes.now c.head_room-front.result.now c.find_head.new.headers c.in-Ok-Some.spans c.head_room-front.ensures
    (rw c.in-Ok-Some.field-0-is at c.in-Ok-Some.ensures) in
    let fits : c.in-Ok-Some.spans.len + c.in-Ok.size ≤ length c.args.bytes.now = omega (arith, on.len_fits) in
    request_taken c.args.limit c.in-Ok.size c.args.bytes.now c.head_room-front.result.now c.find_head.new.headers c.in-Ok-Some.spans on.h
    c.in_ok-take_whole.field-0 on.is on.within on.at (c.in-Ok.ensures on.h on.at) fits c.in_ok-take_whole.ensures
