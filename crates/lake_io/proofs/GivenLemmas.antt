-- Ids that count up differ.
use Rattle.std.proofs.Common.{◌≡◌, ◌≤◌, ◌<◌, ◌+◌, ◌-◌, ◌^◌, ◌==◌, ℕ, zero, suc, true, false, [], ◌∷◌, ◌++◌, All, refl, ap, ◌∙◌, arith, Some, None, nat_eq}
use Rattle.std.specs.Prelude.{if◌then◌else◌, IfSome, Option, Bool}
use Rattle.std.specs.Cmp.{nat_eq_equiv}
use Rattle.std.specs.List.{IsDistinct}
use Rattle.std.proofs.lemmas.Bool.{eqb-true, ne_eqb}
use Rattle.std.proofs.lemmas.List.Elements.{All-push, All-weaker, All-nil, All-contains}
use Rattle.std.proofs.lemmas.List.Folds.{list_any_none}
use Rattle.std.proofs.lemmas.Map.Keys.{IsDistinct-push}
use Rattle.lake_io.specs.GivenIds.{GivesNew, counted_to, counted_up, next_number}

-- all are below the number that follows
counted_below : (first k : ℕ) → All (λ x. x < first + k) (counted_up first k)
unfolding counted_up
counted_below first zero = All-nil (λ x. x < first + 0)
counted_below first (suc k) =
    All-push (λ x. x < first + suc k) (counted_up first k) (first + k)
    (All-weaker (λ x. x < first + k) (λ x. x < first + suc k) (λ x h. omega arith) (counted_up first k) (counted_below first k))
    (omega arith)

counted_distinct : (first k : ℕ) → IsDistinct nat_eq (counted_up first k)
unfolding counted_up IsDistinct
counted_distinct first zero = tt
counted_distinct first (suc k) =
    IsDistinct-push nat_eq_equiv (counted_up first k) (first + k) (counted_distinct first k)
    (list_any_none (nat_eq (first + k)) (counted_up first k) (All-weaker (λ x. x < first + k) (λ x. nat_eq (first + k) x ≡ false) (λ x h. ne_eqb (first + k) x (λ e. omega arith)) (counted_up first k) (counted_below first k)))

-- the numbers up to the next one are those before and this one
counted_next : (first n : ℕ) → first ≤ n → counted_to first (next_number n) ≡ counted_up first (suc (n - first))
counted_next first n h =
    elim (n == 2 ^ 128 - 1) as (λ v. (n == 2 ^ 128 - 1) ≡ v → counted_to first (if v then None else Some (n + 1)) ≡ counted_up first (suc (n - first))) [
      | true ↦ λ e. let m : n ≡ 2 ^ 128 - 1 = eqb-true n (2 ^ 128 - 1) e in ap (counted_up first) (omega arith)
      | false ↦ λ e. ap (counted_up first) (omega arith)
    ] refl

counted_more : (first k n : ℕ) → first + k ≡ n → counted_up first (suc k) ≡ counted_up first k ++ n ∷ []
unfolding counted_up
counted_more first k n e = ap (λ x. counted_up first k ++ x ∷ []) e

pub counted_new : (first n : ℕ) → first ≤ n → GivesNew true (counted_to first (Some n)) n (counted_to first (next_number n))
counted_new first n h =
    let k : ℕ = n - first in
    let e : first + k ≡ n = omega arith in
    record {
      before = refl;
      added = counted_next first n h ∙ counted_more first k n e;
      fresh = λ c. omega (arith, All-contains (λ x. x < first + k) (counted_up first k) n (counted_below first k) c);
      distinct = rw (counted_next first n h) (counted_distinct first (suc k));
    }

-- the same where the parts are known by equations
pub counted_gives : (differ : Bool) (first n : ℕ) (next after : Option ℕ) → differ ≡ true → next ≡ Some n → after ≡ next_number n → IfSome next (λ m. first ≤ m) → GivesNew differ (counted_to first next) n (counted_to first after)
counted_gives differ first n next after d e a h =
    let low : IfSome (Some n) (λ m. first ≤ m) = rw e at h in rw (d, e, a) (counted_new first n low)
