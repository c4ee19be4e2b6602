-- What has no LF: digits, and a string with its escapes.
use Rattle.std.proofs.Common.{◌≡◌, ◌≢◌, ℕ, ◌/◌, ◌%◌, ◌^◌, ◌<◌, ◌==◌, List, [], ◌∷◌, ◌++◌, Bool, true, false, cond, not, nat_lt, All, decimal, refl, arith, ltb-true}
use Rattle.std.specs.Char.{digit_char}
use Rattle.std.proofs.lemmas.Bool.Decides.{nat_tests as tests}
use Rattle.std.proofs.lemmas.Bool.{and_parts}
use Rattle.std.specs.List.{list_all}
use Rattle.std.proofs.lemmas.Fmt.{decimal_is_IsNumeral}
use Rattle.std.proofs.lemmas.List.Elements.{All-nil, All-cons, All-append, All-from_get_or}
use Rattle.std.proofs.lemmas.Str.Parse.{digit_at}
use Rattle.json.specs.Print.{escape_letter, escape_byte, escape, quoted}

abbrev pub IsOneLine : List ℕ → Type 0
IsOneLine text = All (λ b. b ≢ 10) text

pub one_line-decimal : (n : ℕ) → n < 2 ^ 64 → IsOneLine (decimal n)
one_line-decimal n h =
    All-from_get_or (λ b. b ≢ 10) (decimal n) 0 (λ i below e. let digit = digit_at (decimal n) i (decimal_is_IsNumeral n h).0.1 below in absurd (omega (arith, digit.0)))

letter_not : (x : ℕ) → escape_letter x ≢ 10
letter_not x = grind (arith, tests)

high_not : (x : ℕ) → x < 32 → digit_char (x / 16) ≢ 10
high_not x h = grind (arith, tests)

low_not : (x : ℕ) → digit_char (x % 16) ≢ 10
low_not x = grind (arith, tests)

plain_not : (x : ℕ) → nat_lt x 32 ≡ false → x ≡ 10 → ⊥
plain_not x big e = absurd (grind (arith, tests))

differs : (x : ℕ) → not (x == 10) ≡ true → x ≢ 10
differs x h e = absurd (grind (arith, tests))

-- a text whose bytes can be looked at
pub one_line-literal : (text : List ℕ) → list_all (λ x. not (x == 10)) text ≡ true → IsOneLine text
one_line-literal [] h = All-nil (λ b. b ≢ 10)
one_line-literal (x ∷ xs) h =
    let p = and_parts (not (x == 10)) (list_all (λ y. not (y == 10)) xs) h in
    All-cons (λ b. b ≢ 10) x xs (differs x p.0) (one_line-literal xs p.1)

either : (b : Bool) (x y : List ℕ) → (b ≡ true → IsOneLine x) → (b ≡ false → IsOneLine y) → IsOneLine (cond b x y)
either true x y h k = h refl
either false x y h k = k refl

two : (x y : ℕ) → x ≢ 10 → y ≢ 10 → IsOneLine (x ∷ y ∷ [])
two x y h k = All-cons (λ b. b ≢ 10) x (y ∷ []) h (All-cons (λ b. b ≢ 10) y [] k (All-nil (λ b. b ≢ 10)))

one_line-escape_byte : (x : ℕ) → IsOneLine (escape_byte x)
unfolding escape_byte
one_line-escape_byte x =
    either (nat_lt 0 (escape_letter x)) (92 ∷ escape_letter x ∷ []) _ (λ e. two 92 (escape_letter x) (λ z. absurd (omega arith)) (letter_not x)) (λ none.
    either (nat_lt x 32) _ (x ∷ [])
    (λ small.
    let P : ℕ → Type 0 = λ b. b ≢ 10 in
    let digits = digit_char (x / 16) ∷ digit_char (x % 16) ∷ [] in
    All-cons P 92 (117 ∷ 48 ∷ 48 ∷ digits) (λ z. absurd (omega arith)) (All-cons P 117 (48 ∷ 48 ∷ digits) (λ z. absurd (omega arith)) (All-cons P 48 (48 ∷ digits) (λ z. absurd (omega arith)) (All-cons P 48 digits (λ z. absurd (omega arith)) (two (digit_char (x / 16)) (digit_char (x % 16)) (high_not x (ltb-true x 32 small)) (low_not x))))))
    (λ big. All-cons (λ b. b ≢ 10) x [] (λ z. absurd (plain_not x big z)) (All-nil (λ b. b ≢ 10))))

one_line-escape : (s : List ℕ) → IsOneLine (escape s)
one_line-escape [] = All-nil (λ b. b ≢ 10)
one_line-escape (x ∷ xs) = All-append (λ b. b ≢ 10) (escape_byte x) (escape xs) (one_line-escape_byte x) (one_line-escape xs)

pub one_line-quoted : (s : List ℕ) → IsOneLine (quoted s)
one_line-quoted s =
    let P : ℕ → Type 0 = λ b. b ≢ 10 in
    All-cons P 34 (escape s ++ 34 ∷ []) (λ z. absurd (omega arith)) (All-append P (escape s) (34 ∷ []) (one_line-escape s) (All-cons P 34 [] (λ z. absurd (omega arith)) (All-nil P)))
