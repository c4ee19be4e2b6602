-- How the number of binary digits falls when a number is halved.
use Rattle.std.proofs.Common.{◌≡◌, ℕ, zero, suc, ◌+◌, ◌*◌, ◌/◌, ◌^◌, ◌<◌, ◌≤◌, ⊎_elim, refl, subst, arith}
use Rattle.std.proofs.lemmas.Nat.{leading_length}
use Rattle.std.proofs.Math.Nat.{pow-le-pow_right, pow-suc}
use Rattle.std.proofs.lemmas.Bool.{cases_lt}
use Rattle.commit_timestamps.specs.Digits.{binary_digits}

-- the number of digits is the least power of two above n
record HasDigits (n d : ℕ) : Type 0 where
  above : n < 2 ^ d
  reached : 2 ^ d ≤ 2 * n + 1

has_digits : (n : ℕ) → n < 2 ^ 64 → (d : ℕ) × (binary_digits n ≡ d) × HasDigits n d
has_digits n small =
    let (d, sum, above, reached) = leading_length 64 n small in
    (d, omega arith, record { above = above; reached = reached })

-- a number below a power of two has no more digits than that
no_more : (n d e : ℕ) → HasDigits n d → n < 2 ^ e → d ≤ e
no_more n d e h low =
    ⊎_elim
    (λ (more : e < d). let grown : 2 ^ suc e ≤ 2 ^ d = pow-le-pow_right (omega arith) (omega arith) in
    let twice : 2 ^ suc e ≡ 2 ^ e * 2 = pow-suc 2 e in absurd (omega (arith, h.reached)))
    (λ (le : d ≤ e). le) (cases_lt e d)

-- a number above 0 has a digit
some : (n d : ℕ) → HasDigits n d → 0 < n → (e : ℕ) × (d ≡ suc e)
some n zero h positive = absurd (omega (arith, h.above))
some n (suc e) h positive = (e, refl)

pub binary_digits_pos : (n : ℕ) → n < 2 ^ 64 → 0 < n → 0 < binary_digits n
binary_digits_pos n small positive =
    let (d, is, h) = has_digits n small in let (e, more) = some n d h positive in omega arith

pub binary_digits_half : (n m : ℕ) → m < 2 ^ 64 → 0 < m → n ≤ m / 2 → binary_digits n < binary_digits m
binary_digits_half n m small positive half =
    let (d, is, h) = has_digits m small in
    let (e, more) = some m d h positive in
    let (f, is', h') = has_digits n (omega arith) in
    let above : m < 2 ^ suc e = subst (λ (k : ℕ). m < 2 ^ k) more h.above in
    let twice : 2 ^ suc e ≡ 2 ^ e * 2 = pow-suc 2 e in
    let le : f ≤ e = no_more n f e h' (omega arith) in omega arith
