use Rattle.std.proofs.Common.{◌∙◌, arith}
use Rattle.lake_io.proofs.Telling.{writes_more, writes_room}
use Rattle.lake_io.proofs.output.put_all.Goals as goal

pub loop-done-preserved : goal.loop-done-preserved
loop-done-preserved g c = record {
  written = writes_more _ _ _ _ _ _ _ c.loop-done.invariant.written c.in_ok-done.ensures.takes;
  later = omega (arith, c.loop-done.invariant.later, c.in_ok-done.ensures.cause.later);
  counts = c.in_ok-done.ensures.counts ∙ c.loop-done.invariant.counts;
  room = writes_room _ _ _ _ _ _ c.loop-done.invariant.room c.in_ok-done.ensures.takes;
}
