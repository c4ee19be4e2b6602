use Rattle.std.proofs.Common.{◌≡◌, ◌++◌, map}
use Rattle.std.specs.Prelude.{string_bytes}
use Rattle.object_store.specs.Files.{names_of}
use Rattle.object_store.proofs.shelf.Shelf.names.Given as goal

abbrev pub invariant-loop-key : goal.invariant-loop-key
invariant-loop-key l = l.names.items ++ map string_bytes l.key-iterator ≡ names_of l.self
