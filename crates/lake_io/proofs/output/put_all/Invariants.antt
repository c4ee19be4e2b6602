use Rattle.std.proofs.Common.{◌≡◌, ◌≤◌, ◌-◌, ◌++◌, length, take}
use Rattle.lake_io.specs.Told.{told}
use Rattle.lake_io.proofs.output.put_all.Given as goal

abbrev pub invariant-loop-done : goal.invariant-loop-done
invariant-loop-done g l = record {
  written : g.K.Sink.written l.sink ≡ g.K.Sink.written l.fn.sink ++ told g.K.Sink.tells (take l.done l.bytes);
  later : g.K.Sink.faults l.fn.sink ≤ g.K.Sink.faults l.sink;
  counts : g.K.Sink.faults l.sink ≡ g.K.Sink.faults l.fn.sink;
  room : l.done ≤ length l.bytes;
}

abbrev pub decreases-loop-done : goal.decreases-loop-done
decreases-loop-done g l = length l.bytes - l.done
