-- Times that rise, one commit more.
use Rattle.std.proofs.Common.{◌≡◌, ℕ, ◌+◌, ◌<◌, ◌≤◌, ⊎_elim, arith, List, [], ◌∷◌, ◌++◌, length, get_or, length-append, subst, sym}
use Rattle.std.specs.Prelude.{ℤ, ◌<ℤ◌}
use Rattle.std.proofs.lemmas.Int.{ints}
use Rattle.std.proofs.Math.Seq.{get_or-append_seam}
use Rattle.std.proofs.lemmas.List.Quantifiers.{all_pairs_push}
use Rattle.std.proofs.lemmas.Bool.{cases_lt}
use Rattle.commit_timestamps.specs.Times.{IsRising}

-- a time after all the others
pub IsRising-push : (xs : List ℤ) (x : ℤ) → IsRising xs → ((k : ℕ) (d : ℤ) → k < length xs → get_or xs k d <ℤ x) → IsRising (xs ++ x ∷ [])
IsRising-push xs x rising below = all_pairs_push (λ a b. a <ℤ b) xs x rising below

-- a time after the last one
pub IsRising-push_after : (xs : List ℤ) (last x : ℤ) → IsRising (xs ++ last ∷ []) → last <ℤ x → IsRising ((xs ++ last ∷ []) ++ x ∷ [])
IsRising-push_after xs last x rising after =
    IsRising-push (xs ++ last ∷ []) x rising
    (λ k d within.
    let there : get_or (xs ++ last ∷ []) (length xs) d ≡ last = get_or-append_seam xs last [] d in
    let size : length (xs ++ last ∷ []) ≡ length xs + 1 = length-append xs (last ∷ []) in
    ⊎_elim
    (λ (more : k < length xs). let rise : get_or (xs ++ last ∷ []) k d <ℤ get_or (xs ++ last ∷ []) (length xs) d = rising k (length xs) d more (omega arith) in
    let rise' : get_or (xs ++ last ∷ []) k d <ℤ last = subst (λ (y : ℤ). get_or (xs ++ last ∷ []) k d <ℤ y) there rise in omega (arith, ints))
    (λ (le : length xs ≤ k). let same : length xs ≡ k = omega arith in
    subst (λ (j : ℕ). get_or (xs ++ last ∷ []) j d <ℤ x) same (subst (λ (y : ℤ). y <ℤ x) (sym there) after))
    (cases_lt k (length xs)))
