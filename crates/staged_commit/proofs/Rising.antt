-- The contents of a write stand in strictly rising order, each once.
use Rattle.std.proofs.Common.{◌≡◌, ℕ, List, [], ◌∷◌, Bool, true, false, cond, bytes_eq, Ordering, Less, Equal, Greater, is_eq, is_lt, refl, sym, ap, ◌∙◌, IsPermutation}
use Rattle.std.specs.List.{AllByRecursion}
use Rattle.std.specs.List.Sorted.{IsStrictlySortedBy}
use Rattle.std.specs.Cmp.{IsTotalOrder}
use Rattle.std.specs.Ordering.{ordering_reverse}
use Rattle.std.proofs.lemmas.List.Sorted.{IsPermutation-cons, IsPermutation-middle, IsPermutation-refl, IsPermutation-sym, IsPermutation-trans}
use Rattle.std.proofs.lemmas.Slice.Eq.{bytes_eq-Decides}
use Rattle.action_types.specs.declared.actions.Domain.{Domain}
use Rattle.action_types.specs.Files.{file_of_add, file_of_remove, name_cmp}
use Rattle.conflict_rules.specs.declared.intent.Intent.{Intent}
use Rattle.reconcile.proofs.Named.{exact_names}
use Rattle.staged_commit.specs.Sorting.{placed, sorted}
use Rattle.staged_commit.specs.Writes.{HasContentsInOrder, IsInOrderBy, IsWriteRequest, adds_cmp, domains_cmp, removes_cmp, same_add, same_domain, same_remove}
use Rattle.staged_commit.proofs.Orders.{adds_total, domains_total, removes_total}
use Rattle.staged_commit.proofs.Readable.{Apart, apart-from, apart-sorted, symm-bytes, symm-file}
use Rattle.staged_commit.proofs.Sorts.{Rises, rises-sorted}

module _ {X : Type 0} (R : X → X → Ordering) (o : IsTotalOrder R) where
  moved : (t : Bool) (x y : X) (ys : List X) → IsPermutation (x ∷ ys) (placed R x ys) → IsPermutation (x ∷ y ∷ ys) (cond t (y ∷ placed R x ys) (x ∷ y ∷ ys))
  moved true x y ys h =
      IsPermutation-trans (x ∷ y ∷ ys) (y ∷ x ∷ ys) (y ∷ placed R x ys)
      (IsPermutation-sym (y ∷ x ∷ ys) (x ∷ y ∷ ys) (IsPermutation-middle (y ∷ []) x ys)) (IsPermutation-cons y (x ∷ ys) (placed R x ys) h)
  moved false x y ys h = IsPermutation-refl (x ∷ y ∷ ys)

  same-placed : (x : X) (ys : List X) → IsPermutation (x ∷ ys) (placed R x ys)
  same-placed x [] = IsPermutation-refl (x ∷ [])
  same-placed x (y ∷ ys) = moved (is_lt (R y x)) x y ys (same-placed x ys)

  same-sorted : (xs : List X) → IsPermutation xs (sorted R xs)
  same-sorted [] = IsPermutation-refl []
  same-sorted (x ∷ xs) = IsPermutation-trans (x ∷ xs) (x ∷ sorted R xs) (placed R x (sorted R xs)) (IsPermutation-cons x xs (sorted R xs) (same-sorted xs)) (same-placed x (sorted R xs))

  less-by : (x y : X) (r : Ordering) → R x y ≡ r → is_lt (R y x) ≡ false → is_eq r ≡ false → r ≡ Less
  less-by x y Less e h k = refl
  less-by x y Equal e h k = cc
  less-by x y Greater e h k = let back : R y x ≡ Less = o.antisymm y x ∙ ap ordering_reverse e in let there : is_lt (R y x) ≡ true = ap is_lt back in cc

  module _ (same : X → X → Bool) (apart : (x y : X) → same x y ≡ false → is_eq (R x y) ≡ false) where
    all-less : (x : X) (ys : List X) → AllByRecursion (λ y. is_lt (R y x) ≡ false) ys → AllByRecursion (λ y. same x y ≡ false) ys → AllByRecursion (λ y. R x y ≡ Less) ys
    all-less x [] h k = tt
    all-less x (y ∷ ys) h k = (less-by x y (R x y) refl h.0 (apart x y k.0), all-less x ys h.1 k.1)

    strictly : (xs : List X) → Rises R o xs → Apart same xs → IsStrictlySortedBy R xs
    unfolding IsStrictlySortedBy
    strictly [] h k = tt
    strictly (x ∷ xs) h k = (all-less x xs h.0 k.0, strictly xs h.1 k.1)

    pub in-order : (symm : (x y : X) → same x y ≡ same y x) (xs : List X) → Apart same xs → IsInOrderBy R xs (sorted R xs)
    in-order symm xs a = record { same = same-sorted xs; rising = strictly (sorted R xs) (rises-sorted R o xs) (apart-sorted R o same symm xs a) }

equal-names : (a b : List ℕ) (r : Ordering) → name_cmp a b ≡ r → bytes_eq a b ≡ false → is_eq r ≡ false
equal-names a b Less e h = refl
equal-names a b Equal e h = let there : bytes_eq a b ≡ true = (bytes_eq-Decides a b).1 (exact_names a b e) in cc
equal-names a b Greater e h = refl

pub contents-in-order : (intent : Intent) → IsWriteRequest intent → HasContentsInOrder intent
contents-in-order intent request = record {
  domains = in-order domains_cmp domains_total same_domain (λ x y h. equal-names x.domain y.domain (name_cmp x.domain y.domain) refl h)
      (λ x y. symm-bytes x.domain y.domain) intent.domains
      (apart-from domains_cmp domains_total same_domain (λ x y. symm-bytes x.domain y.domain) intent.domains request.own_domains);
  removes = in-order removes_cmp removes_total same_remove (λ x y h. h) (λ x y. symm-file (file_of_remove x) (file_of_remove y)) intent.removes
      (apart-from removes_cmp removes_total same_remove (λ x y. symm-file (file_of_remove x) (file_of_remove y)) intent.removes request.own_removes);
  adds = in-order adds_cmp adds_total same_add (λ x y h. h) (λ x y. symm-file (file_of_add x) (file_of_add y)) intent.adds
      (apart-from adds_cmp adds_total same_add (λ x y. symm-file (file_of_add x) (file_of_add y)) intent.adds request.own_adds);
}
