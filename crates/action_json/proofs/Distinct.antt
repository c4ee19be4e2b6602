-- Numbers in order are distinct exactly where each is below the next.
use Rattle.std.proofs.Common.{◌≡◌, ℕ, ◌+◌, ◌<◌, ◌==◌, List, length, get_or, Bool, true, false, Decides, nat_lt, refl, sym, arith}
use Rattle.std.specs.List.{IsDistinct, IsAllAdjacentAnswer}
use Rattle.std.specs.List.Sorted.{IsPermutation, IsSorted, IsStrictlyIncreasing}
use Rattle.std.specs.Ordering.{nat_cmp}
use Rattle.std.proofs.lemmas.Bool.{ltb-true}
use Rattle.std.proofs.lemmas.Bool.Decides.{Decides-eqb, nat_tests}
use Rattle.std.proofs.lemmas.List.Kept.{AllPairs-from_increasing}
use Rattle.std.proofs.lemmas.List.Sorted.{IsPermutation-sym}
use Rattle.std.proofs.lemmas.Map.Keys.{IsDistinct-IsPermutation, apart_from_distinct, ge_from_not_lt}
use Rattle.std.proofs.lemmas.Map.Made.{IsDistinct-from_AllPairs}

same_either_way : (x y : ℕ) → (x == y) ≡ (y == x)
same_either_way x y = grind (arith, nat_tests)

distinct_where_rising : (ys : List ℕ) → IsStrictlyIncreasing ys → IsDistinct ◌==◌ ys
distinct_where_rising ys up = IsDistinct-from_AllPairs Decides-eqb ys (λ i j d low high. let below = AllPairs-from_increasing ys up i j d low high in λ e. omega arith)

falls_nowhere : (ys : List ℕ) (k : ℕ) → k + 1 < length ys → IsSorted nat_cmp ys → IsDistinct ◌==◌ ys → false ≡ nat_lt (get_or ys k 0) (get_or ys (k + 1) 0) → ⊥
falls_nowhere ys k high sorted apart none =
    let le = ge_from_not_lt (get_or ys (k + 1) 0) (get_or ys k 0) (sorted k 0 (omega arith) high) in
    let differ = apart_from_distinct ◌==◌ ys k (k + 1) 0 apart (omega arith) high in
    grind (arith, nat_tests)

pub distinct_by_order : (xs ys : List ℕ) (r : Bool) → IsPermutation xs ys → IsSorted nat_cmp ys → IsAllAdjacentAnswer (λ x y b. b ≡ nat_lt x y) ys r → Decides r (IsDistinct ◌==◌ xs)
distinct_by_order xs ys true moved sorted h =
    let up : IsStrictlyIncreasing ys = λ k high. ltb-true _ _ (sym (h k 0 high)) in
    (λ e. IsDistinct-IsPermutation ◌==◌ same_either_way ys xs (IsPermutation-sym xs ys moved) (distinct_where_rising ys up), λ d. refl)
distinct_by_order xs ys false moved sorted h =
    (λ e. absurd (cc), λ d. absurd (falls_nowhere ys h.0 h.1 sorted (IsDistinct-IsPermutation ◌==◌ same_either_way xs ys moved d) (h.2 0)))
