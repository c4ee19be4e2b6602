use Rattle.std.proofs.Common.{◌≡◌, [], None, length}
use Rattle.text_lines.specs.Lines.{cut}
use Rattle.checkpoint_v2.specs.Quick.{IsDigested, quick_left, said_from}
use Rattle.checkpoint_v2.proofs.quick.read_said.Given as goal

abbrev pub invariant-loop-rest : goal.invariant-loop-rest
invariant-loop-rest l = record {
  says : quick_left l.quick (cut l.rest) ≡ said_from None [] (cut l.bytes);
  digested : IsDigested l.quick;
}

abbrev pub decreases-loop-rest : goal.decreases-loop-rest
decreases-loop-rest l = length l.rest
