-- Decimal digits with leading zeros, and the numbers that they write.
use Rattle.std.proofs.Common.{◌≡◌, ℕ, zero, suc, ◌+◌, ◌-◌, ◌*◌, ◌/◌, ◌%◌, ◌^◌, ◌<◌, ◌≤◌, List, [], ◌∷◌, ◌++◌, length, length-append, get_or, take, drop, Bool, true, false, ◌&&◌, set, append_assoc, append-nil, add-one, arith, refl, sym, ap, ◌∙◌, subst}
use Rattle.std.proofs.Math.Nat.{pow-suc}
use Rattle.std.proofs.lemmas.Bool.Decides.{nat_tests}
use Rattle.std.proofs.lemmas.List.{take_more, take_all, length-take-le, drop-set, drop_all}
use Rattle.std.proofs.lemmas.List.Sums.{fold-append}
use Rattle.std.proofs.lemmas.List.Folds.{list_all-append}
use Rattle.std.proofs.lemmas.Str.{IsAscii-append, IsUtf8-from_ascii}
use Rattle.std.proofs.lemmas.Str.Ascii.{IsAscii-nil}
use Rattle.std.specs.Char.{is_ascii_digit}
use Rattle.std.specs.List.{list_all}
use Rattle.std.specs.Str.{IsAscii, IsUtf8}
use Rattle.log_names.specs.Texts.{digits, version_text}
use Rattle.log_names.specs.Reading.{decimal_value}

pub length-digits : (width n : ℕ) → length (digits width n) ≡ width
unfolding digits
length-digits zero n = refl
length-digits (suc width) n =
    omega (arith, length-append (digits width (n / 10)) ((48 + n % 10) ∷ []), length-digits width (n / 10))

digit_of_less : (d : ℕ) → d < 10 → is_ascii_digit (48 + d) ≡ true
digit_of_less d small = grind (arith, nat_tests)

both_true : (a b : Bool) → a ≡ true → b ≡ true → (a && b) ≡ true
both_true a b p q = rw (p, q) refl

pub digits_are_digits : (width n : ℕ) → list_all is_ascii_digit (digits width n) ≡ true
unfolding digits
digits_are_digits zero n = refl
digits_are_digits (suc width) n =
    list_all-append is_ascii_digit (digits width (n / 10)) ((48 + n % 10) ∷ [])
    ∙ both_true _ _ (digits_are_digits width (n / 10)) (both_true _ true (digit_of_less (n % 10) (omega arith)) refl)

one_ascii : (b : ℕ) → b < 128 → IsAscii (b ∷ [])
one_ascii b small zero = small
one_ascii b small (suc i) = omega arith

pub digits_are_ascii : (width n : ℕ) → IsAscii (digits width n)
unfolding digits
digits_are_ascii zero n = IsAscii-nil
digits_are_ascii (suc width) n =
    IsAscii-append (digits width (n / 10)) ((48 + n % 10) ∷ []) (digits_are_ascii width (n / 10)) (one_ascii (48 + n % 10) (omega arith))

pub version_is_text : (version : ℕ) → IsUtf8 (version_text version)
unfolding version_text
version_is_text version = IsUtf8-from_ascii (digits 20 version) (digits_are_ascii 20 version)

-- one digit more
pub decimal_value-push : (bs : List ℕ) (b : ℕ) → decimal_value (bs ++ b ∷ []) ≡ decimal_value bs * 10 + (b - 48)
decimal_value-push bs b = fold-append (λ n c. n * 10 + (c - 48)) 0 bs (b ∷ [])

value_of_digit : (v n d : ℕ) → v ≡ n / 10 → d ≡ n % 10 → v * 10 + (48 + d - 48) ≡ n
value_of_digit v n d p q = omega arith

below_tenth : (n p q : ℕ) → n < q → q ≡ p * 10 → n / 10 < p
below_tenth n p q h e = omega arith

-- the number that the digits of a number write
pub decimal_value-digits : (width n : ℕ) → n < 10 ^ width → decimal_value (digits width n) ≡ n
unfolding digits
decimal_value-digits zero n short = omega arith
decimal_value-digits (suc width) n short =
    decimal_value-push (digits width (n / 10)) (48 + n % 10)
    ∙ value_of_digit (decimal_value (digits width (n / 10))) n (n % 10)
    (decimal_value-digits width (n / 10) (below_tenth n (10 ^ width) (10 ^ suc width) short (pow-suc 10 width))) refl

digit_range : (b : ℕ) → is_ascii_digit b ≡ true → (48 ≤ b) × (b < 58)
digit_range b is_one = grind (arith, nat_tests)

tenth : (v b : ℕ) → 48 ≤ b → b < 58 → (v * 10 + (b - 48)) / 10 ≡ v
tenth v b low high = omega arith

last_digit : (v b : ℕ) → 48 ≤ b → b < 58 → 48 + (v * 10 + (b - 48)) % 10 ≡ b
last_digit v b low high = omega arith

digits-push : (width : ℕ) (bs : List ℕ) (b : ℕ) → digits width (decimal_value bs) ≡ bs → is_ascii_digit b ≡ true
    → digits (suc width) (decimal_value (bs ++ b ∷ [])) ≡ bs ++ b ∷ []
unfolding digits
digits-push width bs b same is_one =
    let v = decimal_value bs in
    let range = digit_range b is_one in
    let front : digits width ((v * 10 + (b - 48)) / 10) ≡ bs = ap (digits width) (tenth v b range.0 range.1) ∙ same in
    rw (decimal_value-push bs b, front, last_digit v b range.0 range.1) refl

first_true : (a b : Bool) → (a && b) ≡ true → a ≡ true
first_true true b e = refl
first_true false b e = cc

second_true : (a b : Bool) → (a && b) ≡ true → b ≡ true
second_true true b e = e
second_true false b e = cc

-- digits are those of the number that they write
pub digits-decimal_value : (width : ℕ) (bs : List ℕ) → length bs ≡ width → list_all is_ascii_digit bs ≡ true
    → digits width (decimal_value bs) ≡ bs
unfolding digits
digits-decimal_value zero [] long all = refl
digits-decimal_value zero (b ∷ bs) long all = absurd (omega arith)
digits-decimal_value (suc width) bs long all =
    let front = take width bs in
    let last = get_or bs width 0 in
    let whole : bs ≡ front ++ last ∷ [] = sym (take_all (width + 1) bs (omega arith)) ∙ take_more bs width 0 (omega arith) in
    let split : (list_all is_ascii_digit front && list_all is_ascii_digit (last ∷ [])) ≡ true =
    sym (list_all-append is_ascii_digit front (last ∷ [])) ∙ ap (list_all is_ascii_digit) (sym whole) ∙ all in
    let here = digits-decimal_value width front (length-take-le width bs (omega arith)) (first_true _ _ split) in
    subst (λ (l : List ℕ). digits (suc width) (decimal_value l) ≡ l) (sym whole)
    (digits-push width front last here (first_true _ _ (second_true _ _ split)))

short-push : (v b p q : ℕ) → v < p → q ≡ p * 10 → b < 58 → v * 10 + (b - 48) < q
short-push v b p q short e high = omega arith

-- a number of so many digits
pub decimal_value-short : (width : ℕ) (bs : List ℕ) → length bs ≡ width → list_all is_ascii_digit bs ≡ true
    → decimal_value bs < 10 ^ width
decimal_value-short zero [] long all = omega arith
decimal_value-short zero (b ∷ bs) long all = absurd (omega arith)
decimal_value-short (suc width) bs long all =
    let front = take width bs in
    let last = get_or bs width 0 in
    let whole : bs ≡ front ++ last ∷ [] = sym (take_all (width + 1) bs (omega arith)) ∙ take_more bs width 0 (omega arith) in
    let split : (list_all is_ascii_digit front && list_all is_ascii_digit (last ∷ [])) ≡ true =
    sym (list_all-append is_ascii_digit front (last ∷ [])) ∙ ap (list_all is_ascii_digit) (sym whole) ∙ all in
    let here : decimal_value front < 10 ^ width = decimal_value-short width front (length-take-le width bs (omega arith)) (first_true _ _ split) in
    let high = digit_range last (first_true _ _ (second_true _ _ split)) in
    let small : decimal_value front * 10 + (last - 48) < 10 ^ suc width =
    short-push (decimal_value front) last (10 ^ width) (10 ^ suc width) here (pow-suc 10 width) high.1 in
    rw (whole, decimal_value-push front last) small

-- the digits that are written from the last place to the first
pub digits_begun : (n : ℕ) (bs : List ℕ) → length bs ≡ 20 → digits 20 n ++ drop 20 bs ≡ version_text n
unfolding version_text
digits_begun n bs long = ap (λ (l : List ℕ). digits 20 n ++ l) (drop_all 20 bs (omega arith)) ∙ append-nil (digits 20 n)

pub digits_more : (place rest : ℕ) (bs : List ℕ) → place < length bs
    → digits place (rest / 10) ++ drop place (set bs place (48 + rest % 10)) ≡ digits (place + 1) rest ++ drop (place + 1) bs
unfolding digits
digits_more place rest bs within =
    rw (drop-set bs place (48 + rest % 10) within, add-one place)
    (sym (append_assoc (digits place (rest / 10)) ((48 + rest % 10) ∷ []) (drop (suc place) bs)))

pub digits_at : (place before rest : ℕ) (bs : List ℕ) → place ≡ before + 1 → before < length bs
    → digits before (rest / 10) ++ drop before (set bs before (48 + rest % 10)) ≡ digits place rest ++ drop place bs
digits_at place before rest bs e within = rw e (digits_more before rest bs within)

pub digits_done : (place rest : ℕ) (bs : List ℕ) → place ≡ 0 → digits place rest ++ drop place bs ≡ bs
unfolding digits
digits_done place rest bs e = rw e refl
