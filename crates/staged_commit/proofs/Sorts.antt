-- A stable sort by a total order gives the list in its order.
use Rattle.std.proofs.Common.{Bor, Bool, true, false, ◌&&◌, not, cond, ◌≡◌, ℕ, zero, suc, ◌+◌, ◌<◌, ◌≤◌, length, get_or, List, [], ◌∷◌, map, filter, Ordering, Less, Equal, Greater, is_lt, is_gt, refl, sym, ap, ap₂, ◌∙◌, subst, arith, IsSortedBy}
use Rattle.std.specs.Prelude.{⊤}
use Rattle.std.specs.List.{AllByRecursion}
use Rattle.std.specs.List.Sorted.{IsStableBy, ties}
use Rattle.std.specs.Cmp.{IsTotalOrder, IsStrictWeakOrder}
use Rattle.std.specs.Fn.{Called, ComparesAs}
use Rattle.std.specs.Ordering.{ordering_reverse}
use Rattle.std.proofs.lemmas.Bool.{and_parts}
use Rattle.std.proofs.lemmas.Cmp.{alike_right, tied_itself, upto}
use Rattle.std.proofs.lemmas.Fn.{always_returns_same}
use Rattle.std.proofs.lemmas.List.Elements.{recursion_from_All}
use Rattle.std.proofs.lemmas.List.Sorted.{ranks_by, sorted_far}
use denote.Param.Members.{Mut}
use Rattle.staged_commit.specs.Sorting.{placed, sorted}

gt-reversed : (o : Ordering) → is_gt (ordering_reverse o) ≡ is_lt o
gt-reversed Less = refl
gt-reversed Equal = refl
gt-reversed Greater = refl

less-if : (o : Ordering) → is_lt o ≡ true → o ≡ Less
less-if Less h = refl
less-if Equal h = cc
less-if Greater h = cc

filter-none : {X : Type 0} (p : X → Bool) (xs : List X) → AllByRecursion (λ x. p x ≡ false) xs → filter p xs ≡ []
filter-none p [] h = refl
filter-none p (x ∷ xs) h = ap (λ b. cond b (x ∷ filter p xs) (filter p xs)) h.0 ∙ filter-none p xs h.1

all-weaker : {X : Type 0} (P Q : X → Type 0) → ((x : X) → P x → Q x) → (xs : List X) → AllByRecursion P xs → AllByRecursion Q xs
all-weaker P Q f [] h = tt
all-weaker P Q f (x ∷ xs) h = (f x h.0, all-weaker P Q f xs h.1)

abbrev head-of : {X : Type 0} → X → List X → X
head-of d [] = d
head-of d (x ∷ xs) = x

abbrev tail-of : {X : Type 0} → List X → List X
tail-of [] = []
tail-of (x ∷ xs) = xs

no-cons : {X : Type 0} (x : X) (xs : List X) → x ∷ xs ≡ [] → ⊥
no-cons x xs h = cc

module _ {X : Type 0} (R : X → X → Ordering) (o : IsTotalOrder R) where
  -- neither is before the other
  abbrev tied : X → X → Bool
  tied = ties (λ x y. is_lt (R x y))

  -- none is before one that it follows
  abbrev pub Rises : List X → Type 0
  Rises [] = ⊤
  Rises (x ∷ xs) = AllByRecursion (λ y. is_lt (R y x) ≡ false) xs × Rises xs

  gt-is-lt : (x y : X) → is_gt (R x y) ≡ is_lt (R y x)
  gt-is-lt x y = ap is_gt (o.antisymm x y) ∙ gt-reversed (R y x)

  tied-self : (x : X) → tied x x ≡ true
  tied-self x = ap (λ r. not (is_lt r) && not (is_lt r)) (tied_itself o x)

  equal-of : (x y : X) (r s : Ordering) → R x y ≡ r → R y x ≡ s → r ≡ ordering_reverse s → (not (is_lt r) && not (is_lt s)) ≡ true → R x y ≡ Equal
  equal-of x y Less s e f back h = cc
  equal-of x y Equal s e f back h = e
  equal-of x y Greater Less e f back h = cc
  equal-of x y Greater Equal e f back h = cc
  equal-of x y Greater Greater e f back h = cc

  tied-equal : (x y : X) → tied x y ≡ true → R x y ≡ Equal
  tied-equal x y h = equal-of x y (R x y) (R y x) refl refl (o.antisymm x y) h

  -- what is before one that does not come after another is before that
  before-by : (x y z : X) (s : Ordering) → R z y ≡ s → R x y ≡ Less → is_lt s ≡ false → R x z ≡ Less
  before-by x y z Less e h k = cc
  before-by x y z Equal e h k = alike_right o z y x e ∙ h
  before-by x y z Greater e h k = o.trans x y z h (o.antisymm y z ∙ ap ordering_reverse e)

  not-tied : (x z : X) → R x z ≡ Less → tied x z ≡ false
  not-tied x z h = ap (λ r. not (is_lt r) && not (is_lt (R z x))) h

  none-tied : (x y : X) (ys : List X) → R x y ≡ Less → AllByRecursion (λ z. is_lt (R z y) ≡ false) ys → filter (tied x) (y ∷ ys) ≡ []
  none-tied x y ys h all =
      filter-none (tied x) (y ∷ ys)
      (not-tied x y h, all-weaker (λ z. is_lt (R z y) ≡ false) (λ z. tied x z ≡ false) (λ z k. not-tied x z (before-by x y z (R z y) refl h k)) ys all)

  stays-first : (x : X) (xs : List X) → filter (tied x) (x ∷ xs) ≡ x ∷ filter (tied x) xs
  stays-first x xs = ap (λ b. cond b (x ∷ filter (tied x) xs) (filter (tied x) xs)) (tied-self x)

  same-tails : (b : Bool) (x : X) (us vs : List X) → cond b (x ∷ us) us ≡ cond b (x ∷ vs) vs → us ≡ vs
  same-tails true x us vs h = ap tail-of h
  same-tails false x us vs h = h

  same-heads : (x y : X) (xs ys : List X) → R x y ≡ Equal → filter (tied x) (x ∷ xs) ≡ filter (tied x) (y ∷ ys) → x ≡ y
  same-heads x y xs ys e h =
      let there : tied x y ≡ true = ap₂ (λ r s. not (is_lt r) && not (is_lt s)) e (o.antisymm y x ∙ ap ordering_reverse e) in
      ap (head-of x) (sym (stays-first x xs) ∙ h ∙ ap (λ b. cond b (y ∷ filter (tied x) ys) (filter (tied x) ys)) there)

  -- a list that rises is known by what ties with each
  unique-by : (r : Ordering) (x y : X) (xs ys : List X) → R x y ≡ r → Rises (x ∷ xs) → Rises (y ∷ ys) → ((w : X) → filter (tied w) (x ∷ xs) ≡ filter (tied w) (y ∷ ys))
      → (Rises xs → Rises ys → ((w : X) → filter (tied w) xs ≡ filter (tied w) ys) → xs ≡ ys) → x ∷ xs ≡ y ∷ ys
  unique-by Less x y xs ys e rx ry h more = absurd (no-cons x (filter (tied x) xs) (sym (stays-first x xs) ∙ h x ∙ none-tied x y ys e ry.0))
  unique-by Greater x y xs ys e rx ry h more =
      let back : R y x ≡ Less = o.antisymm y x ∙ ap ordering_reverse e in
      absurd (no-cons y (filter (tied y) ys) (sym (stays-first y ys) ∙ sym (h y) ∙ none-tied y x xs back rx.0))
  unique-by Equal x y xs ys e rx ry h more =
      let same = same-heads x y xs ys e (h x) in
      let rest : (w : X) → filter (tied w) xs ≡ filter (tied w) ys = λ w.
      same-tails (tied w x) x (filter (tied w) xs) (filter (tied w) ys) (h w ∙ ap (λ z. cond (tied w z) (z ∷ filter (tied w) ys) (filter (tied w) ys)) (sym same)) in
      ap₂ (λ z zs. z ∷ zs) same (more rx.1 ry.1 rest)

  unique : (xs ys : List X) → Rises xs → Rises ys → ((x : X) → filter (tied x) xs ≡ filter (tied x) ys) → xs ≡ ys
  unique [] [] rx ry h = refl
  unique [] (y ∷ ys) rx ry h = absurd (no-cons y (filter (tied y) ys) (sym (stays-first y ys) ∙ sym (h y)))
  unique (x ∷ xs) [] rx ry h = absurd (no-cons x (filter (tied x) xs) (sym (stays-first x xs) ∙ h x))
  unique (x ∷ xs) (y ∷ ys) rx ry h = unique-by (R x y) x y xs ys refl rx ry h (unique xs ys)

  -- ---- the list in the order

  both-tied : (w x y : X) → tied w y ≡ true → tied w x ≡ true → is_lt (R y x) ≡ true → ⊥
  both-tied w x y h k l =
      let same : R y x ≡ Equal = sym (o.congr w y x (tied-equal w y h)) ∙ tied-equal w x k in cc

  swapped : (b c : Bool) (x y : X) (zs : List X) → (b ≡ true → c ≡ true → ⊥)
      → cond b (y ∷ cond c (x ∷ zs) zs) (cond c (x ∷ zs) zs) ≡ cond c (x ∷ cond b (y ∷ zs) zs) (cond b (y ∷ zs) zs)
  swapped true true x y zs h = absurd (h refl refl)
  swapped true false x y zs h = refl
  swapped false true x y zs h = refl
  swapped false false x y zs h = refl

  placed-here : (t : Bool) (w x y : X) (ys : List X) → is_lt (R y x) ≡ t → filter (tied w) (placed R x ys) ≡ filter (tied w) (x ∷ ys)
      → filter (tied w) (cond t (y ∷ placed R x ys) (x ∷ y ∷ ys)) ≡ filter (tied w) (x ∷ y ∷ ys)
  placed-here true w x y ys e h =
      ap (λ l. cond (tied w y) (y ∷ l) l) h ∙ swapped (tied w y) (tied w x) x y (filter (tied w) ys) (λ b c. both-tied w x y b c e)
  placed-here false w x y ys e h = refl

  filter-placed : (w x : X) (ys : List X) → filter (tied w) (placed R x ys) ≡ filter (tied w) (x ∷ ys)
  filter-placed w x [] = refl
  filter-placed w x (y ∷ ys) = placed-here (is_lt (R y x)) w x y ys refl (filter-placed w x ys)

  filter-sorted : (w : X) (xs : List X) → filter (tied w) (sorted R xs) ≡ filter (tied w) xs
  filter-sorted w [] = refl
  filter-sorted w (x ∷ xs) = filter-placed w x (sorted R xs) ∙ ap (λ l. cond (tied w x) (x ∷ l) l) (filter-sorted w xs)

  all-here : (t : Bool) (P : X → Type 0) (x y : X) (ys : List X) → P x → AllByRecursion P (y ∷ ys) → AllByRecursion P (placed R x ys)
      → AllByRecursion P (cond t (y ∷ placed R x ys) (x ∷ y ∷ ys))
  all-here true P x y ys h all more = (all.0, more)
  all-here false P x y ys h all more = (h, all)

  all-placed : (P : X → Type 0) (x : X) (ys : List X) → P x → AllByRecursion P ys → AllByRecursion P (placed R x ys)
  all-placed P x [] h all = (h, tt)
  all-placed P x (y ∷ ys) h all = all-here (is_lt (R y x)) P x y ys h all (all-placed P x ys h all.1)

  pub all-sorted : (P : X → Type 0) (xs : List X) → AllByRecursion P xs → AllByRecursion P (sorted R xs)
  all-sorted P [] all = tt
  all-sorted P (x ∷ xs) all = all-placed P x (sorted R xs) all.0 (all-sorted P xs all.1)

  not-before : (x y z : X) → is_lt (R y x) ≡ false → is_lt (R z y) ≡ false → is_lt (R z x) ≡ false
  not-before x y z h k = sym (gt-is-lt x z) ∙ upto o x y z (gt-is-lt x y ∙ h) (gt-is-lt y z ∙ k)

  not-after : (x y : X) → is_lt (R y x) ≡ true → is_lt (R x y) ≡ false
  not-after x y h = ap is_lt (o.antisymm x y ∙ ap ordering_reverse (less-if (R y x) h))

  rises-here : (t : Bool) (x y : X) (ys : List X) → is_lt (R y x) ≡ t → Rises (y ∷ ys) → Rises (placed R x ys) → Rises (cond t (y ∷ placed R x ys) (x ∷ y ∷ ys))
  rises-here true x y ys e r more = (all-placed (λ z. is_lt (R z y) ≡ false) x ys (not-after x y e) r.0, more)
  rises-here false x y ys e r more = ((e, all-weaker (λ z. is_lt (R z y) ≡ false) (λ z. is_lt (R z x) ≡ false) (λ z k. not-before x y z e k) ys r.0), r)

  rises-placed : (x : X) (ys : List X) → Rises ys → Rises (placed R x ys)
  rises-placed x [] r = (tt, tt)
  rises-placed x (y ∷ ys) r = rises-here (is_lt (R y x)) x y ys refl r (rises-placed x ys r.1)

  pub rises-sorted : (xs : List X) → Rises (sorted R xs)
  rises-sorted [] = tt
  rises-sorted (x ∷ xs) = rises-placed x (sorted R xs) (rises-sorted xs)

  -- ---- a sort

  rises-from : (xs : List X) → IsSortedBy (λ x y. is_lt (R x y)) xs → Rises xs
  rises-from [] h = tt
  rises-from (x ∷ xs) h = (
    recursion_from_All (λ y. is_lt (R y x) ≡ false) xs
        (λ k d within. sorted_far (λ a b. is_lt (R a b)) (ranks_by o (λ a. a)) (x ∷ xs) h 0 (suc k) d (omega arith) (omega arith)),
    rises-from xs
        (λ k d low within.
        let e : suc k + 1 ≡ suc (k + 1) = omega arith in
        subst (λ n. is_lt (R (get_or (x ∷ xs) n d) (get_or (x ∷ xs) (suc k) d)) ≡ false) e (h (suc k) d (omega arith) (omega arith))),
  )

  pub sorted-by-sort : (xs ys : List X) → IsSortedBy (λ x y. is_lt (R x y)) ys → IsStableBy (λ x y. is_lt (R x y)) xs ys → ys ≡ sorted R xs
  sorted-by-sort xs ys up stable = unique ys (sorted R xs) (rises-from ys up) (rises-sorted xs) (λ w. stable w ∙ sym (filter-sorted w xs))

-- ---- what stands for the elements

module _ {X Y : Type 0} (f : X → Y) (R : Y → Y → Ordering) where
  map-here : (t : Bool) (x y : X) (ys : List X) → map f (placed (λ a b. R (f a) (f b)) x ys) ≡ placed R (f x) (map f ys)
      → map f (cond t (y ∷ placed (λ a b. R (f a) (f b)) x ys) (x ∷ y ∷ ys)) ≡ cond t (f y ∷ placed R (f x) (map f ys)) (f x ∷ f y ∷ map f ys)
  map-here true x y ys h = ap (λ l. f y ∷ l) h
  map-here false x y ys h = refl

  map-placed : (x : X) (ys : List X) → map f (placed (λ a b. R (f a) (f b)) x ys) ≡ placed R (f x) (map f ys)
  map-placed x [] = refl
  map-placed x (y ∷ ys) = map-here (is_lt (R (f y) (f x))) x y ys (map-placed x ys)

  pub map-sorted : (xs : List X) → map f (sorted (λ a b. R (f a) (f b)) xs) ≡ sorted R (map f xs)
  map-sorted [] = refl
  map-sorted (x ∷ xs) = map-placed x (sorted (λ a b. R (f a) (f b)) xs) ∙ ap (placed R (f x)) (map-sorted xs)

-- what `sort_by` leaves of references, where each call compares what they point to
module _ {Y : Type 0} (R : Y → Y → Ordering) (o : IsTotalOrder R) where
  pub sorted-references : {F : Type 0} {g : Mut F (Bor (Bor Y) × (Bor (Bor Y) × Unit {0})) Ordering} {f : F} (ys : List Y) (xs zs : List (Bor Y)) → map (λ x. x.now) xs ≡ ys
      → ((lt : Bor Y → Bor Y → Bool) → IsStrictWeakOrder lt → ComparesAs g lt f → IsSortedBy lt zs)
      → ((lt : Bor Y → Bor Y → Bool) → IsStrictWeakOrder lt → ComparesAs g lt f → IsStableBy lt xs zs)
      → ((a : Bor (Bor Y) × (Bor (Bor Y) × Unit {0})) (r : Ordering) (f' : F) → Called g f a r f' → (r ≡ R a.0.now.now a.1.0.now.now) × (f' ≡ f))
      → map (λ x. x.now) zs ≡ sorted R ys
  sorted-references {g = g} {f = f} ys xs zs same up stable says =
      let now : Bor Y → Y = λ x. x.now in
      let lt : Bor Y → Bor Y → Bool = λ a b. is_lt (R a.now b.now) in
      let weak : IsStrictWeakOrder lt = ranks_by o now in
      let total : IsTotalOrder (λ (a b : Bor Y). R a.now b.now) = record {
        antisymm = λ a b. o.antisymm a.now b.now;
        trans = λ a b c. o.trans a.now b.now c.now;
        congr = λ a b c. o.congr a.now b.now c.now;
      } in
      let compares : ComparesAs g lt f = always_returns_same g (λ a r. is_lt r ≡ lt a.0.now a.1.0.now) f (λ a r f' k. (ap is_lt (says a r f' k).0, (says a r f' k).1)) in
      ap (map now) (sorted-by-sort (λ a b. R a.now b.now) total xs zs (up lt weak compares) (stable lt weak compares))
      ∙ map-sorted now R xs ∙ ap (sorted R) same
