use Rattle.std.specs.Prelude.{take}
use Rattle.std.proofs.Common.{◌≡◌}
use Rattle.table_model.specs.Noted.{bytes_of}
use Rattle.table_model.proofs.text.Text.of.Given as goal

-- the text so far is the front that was read
abbrev pub invariant-loop-byte : goal.invariant-loop-byte
invariant-loop-byte l = bytes_of l.text ≡ take l.byte-index l.bytes
