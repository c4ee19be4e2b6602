-- The least of several in a total order is one of them, and is above none.
use Rattle.std.proofs.Common.{◌≡◌, zero, suc, ◌⊎◌, List, [], ◌∷◌, ◌++◌, Bool, true, false, Option, Some, if◌then◌else◌, fold, All, MatchOption, inl, inr, arith, refl, sym, ap, ◌∙◌}
use Rattle.std.proofs.lemmas.Cmp.{upto}
use Rattle.std.specs.Cmp.{IsTotalOrder}
use Rattle.std.specs.declared.cmp.Ordering.{Ordering}
use Rattle.std.specs.declared.cmp.Ordering.TheVariants.{Less, Equal, Greater}
use Rattle.std.specs.Ordering.{is_lt, is_gt, ordering_reverse}
use Rattle.least_names.specs.Least.{lesser_by, least_by, IsLeast}

abbrev AtMost : {K : Type 0} → (K → K → Ordering) → K → K → Type 0
AtMost order a b = is_gt (order a b) ≡ false

abbrev Among : {K : Type 0} → List K → K → Type 0
Among {K} all one = (front : List K) × (back : List K) × (all ≡ front ++ one ∷ back)

turned : (r s : Ordering) → r ≡ ordering_reverse s → is_gt r ≡ is_lt s
turned r Less e = rw e refl
turned r Equal e = rw e refl
turned r Greater e = rw e refl

not_both : (r : Ordering) → is_lt r ≡ true → is_gt r ≡ false
not_both Less e = refl
not_both Equal e = refl
not_both Greater e = cc

self_equal : (r : Ordering) → r ≡ ordering_reverse r → is_gt r ≡ false
self_equal Less e = refl
self_equal Equal e = refl
self_equal Greater e = cc

-- what the fold from a best one ends with
record Best {K : Type 0} (order : K → K → Ordering) (best : K) (all : List K) (one : K) : Type 0 where
  stands : (one ≡ best) ⊎ Among all one
  under : AtMost order one best
  below : All (λ other. AtMost order one other) all

abbrev Ends : {K : Type 0} → (K → K → Ordering) → Option K → List K → (K → Type 0) → Type 0
Ends {K} order start all P = (one : K) × (fold (lesser_by order) start all ≡ Some one) × P one

module _ {K : Type 0} {order : K → K → Ordering} (total : IsTotalOrder order) where
  gt_is_lt : (a b : K) → is_gt (order a b) ≡ is_lt (order b a)
  gt_is_lt a b = turned (order a b) (order b a) (total.antisymm a b)

  at_most_itself : (a : K) → AtMost order a a
  at_most_itself a = self_equal (order a a) (total.antisymm a a)

  all_more : (one n : K) (ns : List K) → AtMost order one n → All (λ other. AtMost order one other) ns → All (λ other. AtMost order one other) (n ∷ ns)
  all_more one n ns first rest zero d within = first
  all_more one n ns first rest (suc k) d within = rest k d (omega arith)

  all_none : (one : K) → All (λ other. AtMost order one other) []
  all_none one k d within = absurd (omega arith)

  among_more : (one n : K) (ns : List K) → Among ns one → Among (n ∷ ns) one
  among_more one n ns among = (n ∷ among.0, among.1, ap (λ (l : List K). n ∷ l) among.2)

  taken : (best n : K) (ns : List K) (one : K) → AtMost order n best → Best order n ns one → Best order best (n ∷ ns) one
  taken best n ns one less b = record {
    stands = inr (elim b.stands [
      | inl same ↦ ([], ns, ap (λ (x : K). x ∷ ns) (sym same))
      | inr among ↦ among_more one n ns among
    ]);
    under = upto total one n best b.under less;
    below = all_more one n ns b.under b.below;
  }

  kept : (best n : K) (ns : List K) (one : K) → AtMost order best n → Best order best ns one → Best order best (n ∷ ns) one
  kept best n ns one less b = record {
    stands = elim b.stands [
      | inl same ↦ inl same
      | inr among ↦ inr (among_more one n ns among)
    ];
    under = b.under;
    below = all_more one n ns (upto total one best n b.under less) b.below;
  }

  step : (t : Bool) (best n : K) (ns : List K) → is_lt (order n best) ≡ t
      → ((x : K) → Ends order (Some x) ns (Best order x ns))
      → Ends order (if t then Some n else Some best) ns (Best order best (n ∷ ns))
  step true best n ns e rest =
      let r = rest n in
      (r.0, r.1, taken best n ns r.0 (not_both (order n best) e) r.2)
  step false best n ns e rest =
      let r = rest best in
      (r.0, r.1, kept best n ns r.0 (gt_is_lt best n ∙ e) r.2)

  ends : (best : K) (all : List K) → Ends order (Some best) all (Best order best all)
  ends best [] = (best, refl, record { stands = inl refl; under = at_most_itself best; below = all_none best })
  ends best (n ∷ ns) = step (is_lt (order n best)) best n ns refl (λ x. ends x ns)

  of_best : (n : K) (ns : List K) (one : K) → Best order n ns one → IsLeast order (n ∷ ns) one
  of_best n ns one b = record {
    among = elim b.stands [
      | inl same ↦ ([], ns, ap (λ (x : K). x ∷ ns) (sym same))
      | inr among ↦ among_more one n ns among
    ];
    above_none = all_more one n ns b.under b.below;
  }

  pub least-IsLeast : (all : List K) → MatchOption (least_by order all) (all ≡ []) (λ one. IsLeast order all one)
  least-IsLeast [] = refl
  least-IsLeast (n ∷ ns) =
      let r = ends n ns in
      rw r.1 (of_best n ns r.0 r.2)
