-- Lists in which at most one passes a test, as those in the order of their keys.
use Rattle.std.proofs.Common.{◌≡◌, ℕ, ◌+◌, List, [], ◌∷◌, ◌++◌, map, Bool, true, false, cond, Ordering, Less, Option, Some, None, is_some, option_map, refl, sym, ap, ◌∙◌, arith}
use Rattle.std.specs.List.{AllByRecursion, count_by, find}
use Rattle.std.specs.List.Sorted.{IsStrictlySortedBy}
use Rattle.std.specs.Ordering.{eq_by_cmp, is_eq}
use Rattle.std.specs.Cmp.{IsEquivalence}
use Rattle.reconcile.specs.Replay.{or_else, last_said}
use Rattle.reconcile.specs.Walks.{Lists}
use Rattle.reconcile.proofs.Last.{or_else-none}
use Rattle.checkpoint_v2.proofs.Counts.{one, one-false, count-cons}

-- ---- lists

pub all_weaker : {X : Type 0} (P Q : X → Type 0) → ((x : X) → P x → Q x) → (xs : List X) → AllByRecursion P xs → AllByRecursion Q xs
all_weaker P Q k [] h = tt
all_weaker P Q k (x ∷ xs) h = (k x h.0, all_weaker P Q k xs h.1)

pub all_made : {X Y : Type 0} (P : Y → Type 0) (make : X → Y) (xs : List X) → AllByRecursion (λ x. P (make x)) xs → AllByRecursion P (map make xs)
all_made P make [] h = tt
all_made P make (x ∷ xs) h = (h.0, all_made P make xs h.1)

pub all_both : {X : Type 0} (P : X → Type 0) (xs ys : List X) → AllByRecursion P xs → AllByRecursion P ys → AllByRecursion P (xs ++ ys)
all_both P [] ys h k = k
all_both P (x ∷ xs) ys h k = (h.0, all_both P xs ys h.1 k)

pub last_made : {X A B : Type 0} (says : A → Option B) (make : X → A) (xs : List X) → last_said says (map make xs) ≡ last_said (λ x. says (make x)) xs
last_made says make [] = refl
last_made says make (x ∷ xs) = ap (λ o. or_else o (says (make x))) (last_made says make xs)

pub last_silent : {X A B : Type 0} (says : A → Option B) (make : X → A) → ((x : X) → says (make x) ≡ None) → (xs : List X) → last_said says (map make xs) ≡ None
last_silent says make k [] = refl
last_silent says make k (x ∷ xs) = ap (λ o. or_else o (says (make x))) (last_silent says make k xs) ∙ k x

pub count_made : {X A : Type 0} (test : A → Bool) (make : X → A) (xs : List X) → count_by test (map make xs) ≡ count_by (λ x. test (make x)) xs
count_made test make [] = refl
count_made test make (x ∷ xs) =
    count-cons test (make x) (map make xs) ∙ ap (λ n. one (test (make x)) + n) (count_made test make xs) ∙ sym (count-cons (λ y. test (make y)) x xs)

pub count_silent : {X A : Type 0} (test : A → Bool) (make : X → A) → ((x : X) → test (make x) ≡ false) → (xs : List X) → count_by test (map make xs) ≡ 0
count_silent test make k [] = refl
count_silent test make k (x ∷ xs) =
    let here : one (test (make x)) ≡ 0 = one-false (test (make x)) (k x) in
    let rest : count_by test (map make xs) ≡ 0 = count_silent test make k xs in
    count-cons test (make x) (map make xs) ∙ (omega arith)

pub count_alike : {X : Type 0} (test other : X → Bool) → ((x : X) → test x ≡ other x) → (xs : List X) → count_by test xs ≡ count_by other xs
count_alike test other k xs = ap (λ t. count_by t xs) (λ i x. k x i)

-- ---- at most one passes

abbrev pub AtMostOnce : {X : Type 0} → (X → Bool) → List X → Type 0
AtMostOnce test [] = Unit {0}
AtMostOnce test (x ∷ xs) = (test x ≡ true → AllByRecursion (λ y. test y ≡ false) xs) × AtMostOnce test xs

last_none : {X B : Type 0} (test : X → Bool) (g : X → B) (xs : List X) → AllByRecursion (λ y. test y ≡ false) xs → last_said (λ x. cond (test x) (Some (g x)) None) xs ≡ None
last_none test g [] h = refl
last_none test g (x ∷ xs) h =
    ap (λ o. or_else o (cond (test x) (Some (g x)) None)) (last_none test g xs h.1) ∙ ap (λ b. cond b (Some (g x)) None) h.0

last_step : {X B : Type 0} (g : X → B) (b : Bool) (x : X) (later : Option B) (rest : Option X) → (b ≡ true → later ≡ None) → later ≡ option_map g rest
    → or_else later (cond b (Some (g x)) None) ≡ option_map g (cond b (Some x) rest)
last_step g true x later rest k e = ap (λ o. or_else o (Some (g x))) (k refl)
last_step g false x later rest k e = or_else-none later ∙ e

-- the last one that passes is the first one
pub last_once : {X B : Type 0} (test : X → Bool) (g : X → B) (xs : List X) → AtMostOnce test xs → last_said (λ x. cond (test x) (Some (g x)) None) xs ≡ option_map g (find test xs)
last_once test g [] h = refl
last_once test g (x ∷ xs) h =
    last_step g (test x) x (last_said (λ y. cond (test y) (Some (g y)) None) xs) (find test xs) (λ e. last_none test g xs (h.0 e)) (last_once test g xs h.1)

zero_step : (b : Bool) (n : ℕ) → b ≡ false → n ≡ 0 → one b + n ≡ 0
zero_step b n e h = let none : one b ≡ 0 = one-false b e in omega arith

count_zero : {X : Type 0} (test : X → Bool) (xs : List X) → AllByRecursion (λ y. test y ≡ false) xs → count_by test xs ≡ 0
count_zero test [] h = refl
count_zero test (x ∷ xs) h = count-cons test x xs ∙ zero_step (test x) (count_by test xs) h.0 (count_zero test xs h.1)

one_step : {X : Type 0} (b : Bool) (x : X) (n : ℕ) (rest : Option X) → (b ≡ true → n ≡ 0) → n ≡ one (is_some rest) → one b + n ≡ one (is_some (cond b (Some x) rest))
one_step true x n rest k e = let none : n ≡ 0 = k refl in omega arith
one_step false x n rest k e = omega arith

-- so many pass as are found
pub count_once : {X : Type 0} (test : X → Bool) (xs : List X) → AtMostOnce test xs → count_by test xs ≡ one (is_some (find test xs))
count_once test [] h = refl
count_once test (x ∷ xs) h =
    count-cons test x xs ∙ one_step (test x) x (count_by test xs) (find test xs) (λ e. count_zero test xs (h.0 e)) (count_once test xs h.1)

-- ---- keys in order

module _ {K V : Type 0} (order : K → K → Ordering) (e : IsEquivalence (eq_by_cmp order)) (key : V → K) where
  differs : (x v : V) → order (key x) (key v) ≡ Less → eq_by_cmp order (key x) (key v) ≡ false
  differs x v less = ap is_eq less

  others : (k : K) (x : V) (xs : List V) → AllByRecursion (λ y. order (key x) y ≡ Less) (map key xs) → eq_by_cmp order k (key x) ≡ true
      → AllByRecursion (λ v. eq_by_cmp order k (key v) ≡ false) xs
  others k x [] less same = tt
  others k x (v ∷ xs) less same = (e.congr k (key x) (key v) same ∙ differs x v less.0, others k x xs less.1 same)

  -- at most one has a key
  pub sorted_once : (k : K) (xs : List V) → IsStrictlySortedBy order (map key xs) → AtMostOnce (λ v. eq_by_cmp order k (key v)) xs
  unfolding IsStrictlySortedBy
  sorted_once k [] h = tt
  sorted_once k (x ∷ xs) h = (others k x xs h.0, sorted_once k xs h.1)

  behind : (x : V) (ys zs : List V) → AllByRecursion (λ y. order (key x) y ≡ Less) (map key ys)
      → AllByRecursion (λ v. find (λ w. eq_by_cmp order (key v) (key w)) zs ≡ Some v) ys
      → AllByRecursion (λ v. find (λ w. eq_by_cmp order (key v) (key w)) (x ∷ zs) ≡ Some v) ys
  behind x [] zs less h = tt
  behind x (v ∷ ys) zs less h =
      let not : eq_by_cmp order (key v) (key x) ≡ false = e.symm (key v) (key x) ∙ differs x v less.0 in
      (ap (λ b. cond b (Some x) (find (λ w. eq_by_cmp order (key v) (key w)) zs)) not ∙ h.0, behind x ys zs less.1 h.1)

  -- each is found by its key
  found_each : (xs : List V) → IsStrictlySortedBy order (map key xs) → AllByRecursion (λ v. find (λ w. eq_by_cmp order (key v) (key w)) xs ≡ Some v) xs
  unfolding IsStrictlySortedBy
  found_each [] h = tt
  found_each (x ∷ xs) h =
      (ap (λ b. cond b (Some x) (find (λ w. eq_by_cmp order (key x) (key w)) xs)) (e.refl (key x)), behind x xs xs h.0 (found_each xs h.1))

  -- each is what is told at its key
  pub told_each : (xs : List V) (told : K → Option V) → Lists order key xs told → AllByRecursion (λ v. told (key v) ≡ Some v) xs
  told_each xs told l =
      all_weaker (λ v. find (λ w. eq_by_cmp order (key v) (key w)) xs ≡ Some v) (λ v. told (key v) ≡ Some v) (λ v h. sym (l.tells (key v)) ∙ h) xs (found_each xs l.rising)
