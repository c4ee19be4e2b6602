-- Calls that are numbered from 1, of which some fail.
use Rattle.std.specs.Prelude.{◌+◌, ◌-◌, ◌^◌, ◌==◌, ◌&&◌, ℕ, Bool, List, nat_lt, if◌then◌else◌}
use Rattle.std.specs.List.{list_any}

-- the numbers of the calls that fail, how many calls were made, and how many of these failed
pub record CallCount : Type 0 where
  pub fails : List ℕ
  pub made : ℕ
  pub faults : ℕ

-- whether the next call fails; none does once the number of calls is the greatest of 64 bits
abbrev pub next_fails : CallCount → Bool
next_fails c = nat_lt c.made (2 ^ 64 - 1) && list_any (λ number. number == c.made + 1) c.fails

-- a count with one more, which stays at the greatest number of 64 bits
abbrev pub counted : ℕ → ℕ
counted n = if nat_lt n (2 ^ 64 - 1) then n + 1 else n

-- the calls after one more
abbrev pub called : CallCount → CallCount
called c = record {
  fails = c.fails;
  made = counted c.made;
  faults = if next_fails c then counted c.faults else c.faults;
}

-- the same calls, of which one more failed
abbrev pub faulted : CallCount → CallCount
faulted c = record c { faults = counted c.faults }

-- the first call is still to come
abbrev pub uncalled : List ℕ → CallCount
uncalled fails = record { fails = fails; made = 0; faults = 0 }
