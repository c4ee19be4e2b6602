-- When a fault may be answered.
--     Rose before now            a count that stops at the greatest number of 64 bits went up
--     HasCause before now r      the count never fell, and an error came only where it went up
use Rattle.std.specs.Prelude.{◌≤◌, ◌+◌, ◌-◌, ◌^◌, ℕ, min, Result, OnErr}

-- at the greatest number the count stays, and still counts as having gone up
abbrev pub Rose : ℕ → ℕ → Type 0
Rose before now = min (before + 1) (2 ^ 64 - 1) ≤ now

pub record HasCause {X E : Type 0} (before now : ℕ) (result : Result X E) : Type 0 where
  pub later : before ≤ now
  pub failed : OnErr result (Rose before now)
