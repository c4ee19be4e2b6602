-- What the adapters hold.
use Rattle.std.specs.Prelude.{ℕ, ℤ, pos, ◌/◌, ◌^◌, nat_lt, if◌then◌else◌, Option, Some, None}
use Rattle.std.specs.Time.{system_time_nanos}
use Rattle.std.specs.declared.time.SystemTime.{SystemTime}

-- the reader or writer that an adapter stands over, and how many of the adapter's calls failed
pub record Adapter (X : Type 0) : Type 0 where
  pub over : X
  pub faults : ℕ

-- what tells a clock the time, and the clock's last reading
pub record Timed (T : Type 0) : Type 0 where
  pub teller : T
  pub last : ℤ

-- the whole milliseconds from 1970 to a time, where 64 bits hold them
abbrev pub ms_of : SystemTime → Option ℤ
ms_of time = let ms = system_time_nanos time / 1_000_000 in if nat_lt ms (2 ^ 63) then Some (pos ms) else None

-- the milliseconds of the time that was told, where one was told and 64 bits hold them
abbrev pub told_ms : Option SystemTime → Option ℤ
told_ms None = None
told_ms (Some time) = ms_of time
