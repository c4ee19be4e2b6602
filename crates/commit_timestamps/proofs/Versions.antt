-- The version at a time is the one greatest version whose time is at most it.
use Rattle.std.proofs.Common.{◌≡◌, ℕ, suc, zero, ◌<◌, ◌≤◌, ◌⊎◌, ⊎_elim, arith, Bool, true, false, cond, List, [], ◌∷◌, length, get_or, Option, Some, None, refl, sym, ap, subst}
use Rattle.std.specs.Prelude.{ℤ, ◌≤ℤ◌, ◌<ℤ◌, int_le}
use Rattle.std.specs.Option.{option_map}
use Rattle.std.proofs.lemmas.Int.{ints}
use Rattle.std.proofs.lemmas.List.Elements.{All-cons, All-nil}
use Rattle.std.proofs.lemmas.Bool.{cases_lt}
use Rattle.commit_timestamps.specs.Times.{version_at, IsVersionAt, or_else}

le_cases : (a b : ℤ) → ((int_le a b ≡ true) × (a ≤ℤ b)) ⊎ ((int_le a b ≡ false) × (b <ℤ a))
le_cases a b = grind (arith, ints)

not_both : (a b : ℤ) → a ≤ℤ b → b <ℤ a → ⊥
not_both a b p q = omega (arith, ints)

-- two versions that are both the greatest are one
pub IsVersionAt-unique : (times : List ℤ) (t : ℤ) (a b : Option ℕ) → IsVersionAt times t a → IsVersionAt times t b → a ≡ b
IsVersionAt-unique times t None None p q = refl
IsVersionAt-unique times t None (Some w) p q = absurd (not_both _ _ (q.at_most t) (p w t q.is_version))
IsVersionAt-unique times t (Some v) None p q = absurd (not_both _ _ (p.at_most t) (q v t p.is_version))
IsVersionAt-unique times t (Some v) (Some w) p q =
    ⊎_elim (λ (below : v < w). absurd (not_both _ _ (q.at_most t) (p.later_are_after w t below q.is_version)))
    (λ (le : w ≤ v). ⊎_elim (λ (below : w < v). absurd (not_both _ _ (p.at_most t) (q.later_are_after v t below p.is_version)))
    (λ (ge : v ≤ w). ap Some (omega arith)) (cases_lt w v))
    (cases_lt v w)

-- what holds of the first and of the rest holds of each place
later : (P : ℤ → Type 0) (x : ℤ) (xs : List ℤ) (n : ℕ) → ((w : ℕ) (d : ℤ) → n ≤ w → w < length xs → P (get_or xs w d))
    → (w : ℕ) (d : ℤ) → suc n ≤ w → w < length (x ∷ xs) → P (get_or (x ∷ xs) w d)
later P x xs n h zero d p q = absurd (omega arith)
later P x xs n h (suc w) d p q = h w d (omega arith) (omega arith)

-- the greatest version of the times x ∷ xs, from that of xs
step : (x : ℤ) (xs : List ℤ) (t : ℤ) (found : Option ℕ) → IsVersionAt xs t found
    → IsVersionAt (x ∷ xs) t (or_else (option_map suc found) (cond (int_le x t) (Some 0) None))
step x xs t None none =
    ⊎_elim
    (λ (e, at). subst (λ (b : Bool). IsVersionAt (x ∷ xs) t (cond b (Some 0) None)) (sym e)
    (record { is_version = omega arith; at_most = λ d. at; later_are_after = later (λ y. t <ℤ y) x xs 0 (λ w d p. none w d) }))
    (λ (e, after). subst (λ (b : Bool). IsVersionAt (x ∷ xs) t (cond b (Some 0) None)) (sym e)
    (All-cons (λ y. t <ℤ y) x xs after none))
    (le_cases x t)
step x xs t (Some v) found =
    record {
      is_version = omega (arith, found.is_version);
      at_most = found.at_most;
      later_are_after = later (λ y. t <ℤ y) x xs (suc v) found.later_are_after;
    }

pub IsVersionAt-version_at : (times : List ℤ) (t : ℤ) → IsVersionAt times t (version_at times t)
IsVersionAt-version_at [] t = All-nil (λ x. t <ℤ x)
IsVersionAt-version_at (x ∷ xs) t = step x xs t (version_at xs t) (IsVersionAt-version_at xs t)
