-- What the sources and sinks in memory hold.
use Rattle.std.specs.Prelude.{ℕ, List, length, min}
use Rattle.lake_io.specs.Calls.{CallCount}

-- the bytes that a source gave, those that are left, and how many it gives at most in one read
pub record SourceData : Type 0 where
  pub taken : List ℕ
  pub left : List ℕ
  pub piece : ℕ
  pub calls : CallCount

-- the bytes that a sink took
pub record SinkData : Type 0 where
  pub written : List ℕ
  pub calls : CallCount

-- how many bytes a read into a buffer of so many gives
abbrev pub read_size : SourceData → ℕ → ℕ
read_size s room = min s.piece (min room (length s.left))
