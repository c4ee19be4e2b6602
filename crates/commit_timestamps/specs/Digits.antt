-- How many binary digits a number has.
use Rattle.std.specs.Prelude.{ℕ, ◌-◌}
use Rattle.std.specs.Int.{w64, leading_zeros}

-- the binary digits of a number of 64 bits, none for 0
abbrev pub binary_digits : ℕ → ℕ
binary_digits n = 64 - leading_zeros w64 n
