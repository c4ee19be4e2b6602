-- What holds of a reader's fields: the length of its piece, where the pending bytes of it begin and end, the counts and the state.
use Rattle.std.specs.Prelude.{◌≡◌, ◌≤◌, ◌<◌, ◌+◌, ◌-◌, ℕ}
use Rattle.lake_io.specs.declared.reader.InputState.{InputState}
use Rattle.lake_io.specs.declared.reader.InputState.TheVariants as state

-- by the state: each line that was handed has at least one byte of those that were read; where the input ended, perhaps the last one has not
abbrev pub StateFits : InputState → ℕ → ℕ → ℕ → Type 0
StateFits state.Open pending read number = number + pending ≤ read
StateFits state.Ended pending read number = (pending ≡ 0) × (read < 4294967296) × (number ≤ read + 1)
StateFits state.Failed pending read number = (pending ≡ 0) × (read < 4294967296) × (number ≤ read)
StateFits state.Full pending read number = (pending ≡ 0) × (read ≡ 4294967296) × (number ≤ read)
StateFits state.Lost pending read number = (pending ≡ 0) × (number ≤ read)

pub record IsSound (piece start end read number : ℕ) (st : InputState) : Type 0 where
  pub size : piece ≡ 65536
  pub begins : start ≤ end
  pub ends : end ≤ piece
  pub limit : read ≤ 4294967296
  pub fits : StateFits st (end - start) read number
