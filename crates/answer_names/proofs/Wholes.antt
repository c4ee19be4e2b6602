-- Answers over a log, and those that were written whole.
use Rattle.std.proofs.Common.{◌≡◌, ◌≤◌, ◌+◌, ℕ, Bool, List, [], ◌∷◌, ◌++◌, length, sym, ◌∙◌, ap, subst, length-append, append-nil, arith, Option, Some, None, unwrap_or}
use Rattle.std.specs.Prelude.{All, IfSome, slice_index_or}
use Rattle.std.proofs.lemmas.List.Elements.{All-nil, All-cons}
use Rattle.std.proofs.lemmas.List.Concat.{flat_map-append}
use Rattle.table_model.specs.Knowledge.{Knowledge}
use Rattle.answer_names.specs.Names.{Names}
use Rattle.answer_names.specs.Gaining.{known_length, one_for, HasOneVersion}
use Rattle.answer_names.specs.Together.{versions_in, IsFrom, FrontsRise, FrontsWithin, Together, AreWithin}
use Rattle.answer_names.specs.Whole.{IsWhole}

-- ---- over a longer log

lower_front : (low high v : ℕ) (o : Option ℕ) → low ≤ high → IfSome o (λ n. high + v ≤ n) → IfSome o (λ n. low + v ≤ n)
lower_front low high v None h f = tt
lower_front low high v (Some n) h f = omega (arith, h, f)

lower_base : (low high : ℕ) (o : Option ℕ) → low ≤ high → IfSome o (λ b. high ≤ b + 1) → IfSome o (λ b. low ≤ b + 1)
lower_base low high None h f = tt
lower_base low high (Some b) h f = omega (arith, h, f)

lower_next : (low high : ℕ) (o : Option ℕ) → low ≤ high → unwrap_or o low ≤ unwrap_or o high
lower_next low high None h = h
lower_next low high (Some n) h = omega arith

rise_lower : (low high : ℕ) (xs : List Names) → low ≤ high → FrontsRise high xs → FrontsRise low xs
rise_lower low high [] h r = tt
rise_lower low high (a ∷ xs) h r =
    let first : IsFrom low a = record { front = lower_front low high (length a.versions) a.front h r.0.front; base = lower_base low high a.base h r.0.base } in
    (first, rise_lower (unwrap_or a.front low) (unwrap_or a.front high) xs (lower_next low high a.front h) r.1)

within_more : (high more : ℕ) (o : Option ℕ) → high ≤ more → IfSome o (λ n. n ≤ high) → IfSome o (λ n. n ≤ more)
within_more high more None h f = tt
within_more high more (Some n) h f = omega (arith, h, f)

fronts_within : (high more : ℕ) (xs : List Names) → high ≤ more → FrontsWithin high xs → FrontsWithin more xs
fronts_within high more xs h f = λ i d less. within_more high more (slice_index_or xs i d).front h (f i d less)

pub together_within : (tells : Bool) (k m : Knowledge) (xs : List Names) (commits : ℕ) → length m.seen ≤ commits → Together tells k xs m → AreWithin xs commits
together_within tells k m xs commits h t = record {
  rise = rise_lower 0 (known_length k) xs (omega arith) t.rise;
  within = fronts_within (length m.seen) commits xs h t.within;
}

-- ---- the answers that were written whole

record Split (low : ℕ) (xs ys : List Names) : Type 0 where
  high : ℕ
  from : low ≤ high
  within : FrontsWithin high xs
  rest : FrontsRise high ys

next_above : (low v : ℕ) (o : Option ℕ) → IfSome o (λ n. low + v ≤ n) → low ≤ unwrap_or o low
next_above low v None f = omega arith
next_above low v (Some n) f = omega (arith, f)

front_below : (low high : ℕ) (o : Option ℕ) → unwrap_or o low ≤ high → IfSome o (λ n. n ≤ high)
front_below low high None h = tt
front_below low high (Some n) h = h

split : (low : ℕ) (xs ys : List Names) → FrontsRise low (xs ++ ys) → Split low xs ys
split low [] ys r = record { high = low; from = omega arith; within = All-nil (λ a. IfSome a.front (λ n. n ≤ low)); rest = r }
split low (a ∷ xs) ys r =
    let s = split (unwrap_or a.front low) xs ys r.1 in
    record {
      high = s.high;
      from = omega (arith, next_above low (length a.versions) a.front r.0.front, s.from);
      within = All-cons (λ b. IfSome b.front (λ n. n ≤ s.high)) a xs (front_below low s.high a.front s.from) s.within;
      rest = s.rest;
    }

new_front : (high count version : ℕ) (o : Option ℕ) → o ≡ Some (version + 1) → IfSome o (λ n. high + count ≤ n) → high + count ≤ version + 1
new_front high count version o e f = let Q : Option ℕ → Type 0 = λ p. IfSome p (λ n. high + count ≤ n) in subst Q e f

newer : (high : ℕ) (a : Names) (said : List Names) → FrontsWithin high said → IfSome a.front (λ n. high + length a.versions ≤ n) → HasOneVersion a → All (λ version. FrontsWithin version said) a.versions
newer high a said within front one = λ i d less.
    let version = slice_index_or a.versions i d in
    fronts_within high version said (omega (arith, less, new_front high (length a.versions) version a.front (one.last i d less) front)) within

one_more : (a : Names) → HasOneVersion a → length a.versions ≤ 1
one_more a one = at_most a.front one.few where
  at_most : (o : Option ℕ) → length a.versions ≤ one_for o → length a.versions ≤ 1
  at_most None few = omega (arith, few)
  at_most (Some n) few = few

above : (low : ℕ) (said unsaid : List Names) → length unsaid ≤ 1 → All HasOneVersion unsaid → FrontsRise low (said ++ unsaid) → All (λ version. FrontsWithin version said) (versions_in unsaid)
above low said [] few one r = All-nil (λ version. FrontsWithin version said)
above low said (a ∷ []) few one r =
    let s = split low said (a ∷ []) r in
    let P : List ℕ → Type 0 = λ vs. All (λ version. FrontsWithin version said) vs in
    subst P (sym (append-nil a.versions)) (newer s.high a said s.within s.rest.0.front (one 0 a (omega arith)))
above low said (a ∷ b ∷ xs) few one r = absurd (omega (arith, few))

few_versions : (unsaid : List Names) → length unsaid ≤ 1 → All HasOneVersion unsaid → length (versions_in unsaid) ≤ 1
few_versions [] few one = omega arith
few_versions (a ∷ []) few one = omega (arith, one_more a (one 0 a (omega arith)), length-append a.versions [])
few_versions (a ∷ b ∷ xs) few one = absurd (omega (arith, few))

pub answers_whole : (low : ℕ) (said unsaid : List Names) → FrontsRise low (said ++ unsaid) → All HasOneVersion unsaid → length unsaid ≤ 1 → IsWhole (said ++ unsaid) said unsaid
answers_whole low said unsaid rise one few =
    let parts : length (versions_in (said ++ unsaid)) ≡ length (versions_in said) + length (versions_in unsaid) =
    ap length (flat_map-append (λ (a : Names). a.versions) said unsaid) ∙ length-append (versions_in said) (versions_in unsaid)
    in
    record {
      few = few;
      least = omega (arith, parts);
      most = omega (arith, parts, few_versions unsaid few one);
      above = above low said unsaid few one rise;
    }
