use Rattle.std.proofs.Common.{◌≡◌, ◌+◌, ◌++◌, take}
use Rattle.log_names.proofs.buffer.write_at.Given as goal

abbrev pub invariant-loop-index : goal.invariant-loop-index
invariant-loop-index l = take (l.start + l.index) l.bytes ≡ take l.start l.initial.bytes ++ take l.index l.part
