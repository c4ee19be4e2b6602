use Rattle.std.proofs.Common.{arith}
use Rattle.http_calls.proofs.Slashes.{to_slash-here, to_slash-more, to_slash-end}
use Rattle.http_calls.proofs.target.to_slash.Goals as goal

pub loop-len-preserved : goal.loop-len-preserved
loop-len-preserved c =
    let within = c.loop-len-test.true in
    let more = to_slash-more c.args.bytes.now c.loop-len.len within c.if-bytes-len-ne47.true in
    (omega arith, omega (arith, more, c.loop-len.invariant.1))

pub returns-else-bytes-len-ne47-clause-value : goal.returns-else-bytes-len-ne47-clause-value
returns-else-bytes-len-ne47-clause-value c =
    let here = to_slash-here c.args.bytes.now c.loop-len.len c.loop-len-test.true c.if-bytes-len-ne47.false in
    omega (arith, here, c.loop-len.invariant.1)

pub returns-after-loop-len-clause-value : goal.returns-after-loop-len-clause-value
returns-after-loop-len-clause-value c =
    let end = to_slash-end c.args.bytes.now c.loop-len.len c.loop-len-test.false in
    omega (arith, end, c.loop-len.invariant.1)
