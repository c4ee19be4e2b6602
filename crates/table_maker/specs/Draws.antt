-- Numbers that are drawn from a first number, one after another.
use Rattle.std.specs.Prelude.{ℕ, zero, suc, ◌+◌, ◌*◌, ◌/◌, ◌%◌}

-- the state after x, of a linear congruential generator
abbrev pub next_state : ℕ → ℕ
next_state x = (x * 1103515245 + 12345) % 2147483648

-- the state after n steps from a number
abbrev pub state_after : ℕ → ℕ → ℕ
state_after number zero = number
state_after number (suc n) = next_state (state_after number n)

-- what a state draws: its upper 15 bits
abbrev pub drawn : ℕ → ℕ
drawn x = x / 65536
