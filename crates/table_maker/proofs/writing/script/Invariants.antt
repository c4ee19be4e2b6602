-- After k requests: the text so far, what the maker knows of them, and the state after k draws.
use Rattle.std.specs.String.{string_bytes}
use Rattle.table_maker.proofs.Loop.{IsMade}
use Rattle.table_maker.proofs.writing.script.Given as goal

abbrev pub invariant-loop-k : goal.invariant-loop-k
invariant-loop-k l = IsMade l.number l.k (string_bytes l.text) l.maker l.state
