-- One header more.
use Rattle.std.proofs.Common.{List, ℕ, length, ◌<◌, arith, subst}
use Rattle.httparse.specs.Spans.{header_bytes}
use Rattle.http_wire.specs.Named.{AreValues}
use Rattle.http_wire.proofs.HeadLemmas.{values_named-nil, values_more}
use Rattle.http_wire.proofs.head.values_of.Goals as goal

pub loop-header-init : goal.loop-header-init
loop-header-init c = values_named-nil c.args.name.now

pub loop-header-preserved : goal.loop-header-preserved
loop-header-preserved c =
    let within : c.loop-header.header-index < length c.args.headers.now = omega arith in
    subst (λ (vs : List (List ℕ)). AreValues c.with_value-values.result vs)
    (values_more (header_bytes c.args.front.now) c.args.name.now c.args.headers.now c.loop-header.header-index
    (record { name = record { start = 0; end = 0 }; value = record { start = 0; end = 0 } }) within c.is_header_named-is_named.result
    c.of.result.now c.of-in-loop-header.result.now c.is_header_named-is_named.ensures c.of.ensures c.of-in-loop-header.ensures)
    (c.with_value-values.ensures _ c.loop-header.invariant)
