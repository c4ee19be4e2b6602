-- What holds of the fields of a `Wire`.
use Rattle.std.specs.Prelude.{ℕ, ◌≡◌, ◌≤◌}
use Rattle.lake_io.specs.Reading.{input_limit}

pub record IsSound (len at piece headers read : ℕ) : Type 0 where
  pub at_fits : at ≤ len
  pub piece_is : piece ≡ 65536
  pub headers_is : headers ≡ 8192
  pub read_fits : read ≤ input_limit
