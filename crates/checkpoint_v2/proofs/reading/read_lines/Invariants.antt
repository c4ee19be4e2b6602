use Rattle.std.proofs.Common.{◌≡◌, ◌+◌, ◌≤◌, length}
use Rattle.text_lines.specs.Lines.{cut}
use Rattle.action_json.specs.Keys.{Knows}
use Rattle.checkpoint_v2.specs.Left.{left}
use Rattle.checkpoint_v2.specs.Outcome.{outcome}
use Rattle.checkpoint_v2.proofs.reading.read_lines.Given as goal

abbrev pub invariant-loop-rest : goal.invariant-loop-rest
invariant-loop-rest l = record {
  says : left l.version l.reading (cut l.rest) ≡ outcome l.version l.bytes;
  knows : Knows l.reading.keys l.reading.actions.items;
  number : l.reading.number + length l.rest ≤ length l.bytes + 1;
}

abbrev pub decreases-loop-rest : goal.decreases-loop-rest
decreases-loop-rest l = length l.rest
