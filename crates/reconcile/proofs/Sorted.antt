-- Entries in rising order: two lists one behind the other, and what is below all of a list.
use Rattle.std.proofs.Common.{◌≡◌, Bool, true, false, ◌&&◌, cond, List, [], ◌∷◌, ◌++◌, refl, ap, sym, subst, ◌∙◌}
use Rattle.std.specs.Prelude.{Some, None}
use Rattle.std.specs.declared.cmp.Ordering.{Ordering}
use Rattle.std.specs.declared.cmp.Ordering.TheVariants.{Less, Equal, Greater}
use Rattle.std.specs.Ordering.{eq_by_cmp, is_eq, is_lt, is_gt, ordering_reverse}
use Rattle.std.specs.Cmp.{IsTotalOrder}
use Rattle.std.specs.List.{AllByRecursion}
use Rattle.std.specs.FinMap as fin
use Rattle.std.specs.FinMap.Entries.{below_all}
use lib.Dec.{T}
use Rattle.reconcile.specs.Replay.{or_else}
use Rattle.reconcile.proofs.Named.{cond-or_else}

pub both : (a b : Bool) → T a → T b → T (a && b)
both true b p q = q
both false b p q = absurd p

pub first : (a b : Bool) → T (a && b) → T a
first true b p = tt
first false b p = p

pub second : (a b : Bool) → T (a && b) → T b
second true b p = p
second false b p = absurd p

pub less : (o : Ordering) → T (is_lt o) → o ≡ Less
less Less p = refl
less Equal p = absurd p
less Greater p = absurd p

pub so_less : (o : Ordering) → o ≡ Less → T (is_lt o)
so_less o e = subst (λ o. T (is_lt o)) (sym e) tt

pub not_greater : (o : Ordering) → o ≡ Less → is_gt o ≡ false
not_greater o e = ap is_gt e

greater : (o : Ordering) → is_gt o ≡ true → o ≡ Greater
greater Less e = cc
greater Equal e = cc
greater Greater e = refl

pub so_above : {K : Type 0} (R : K → K → Ordering) → IsTotalOrder R → (x y : K) → is_gt (R x y) ≡ true → R y x ≡ Less
so_above R o x y e = o.antisymm y x ∙ ap ordering_reverse (greater (R x y) e)

module _ {K V : Type 0} (R : K → K → Ordering) where
  pub find-both : (q : K) (xs ys : List (K × V)) → fin.find R q (xs ++ ys) ≡ or_else (fin.find R q xs) (fin.find R q ys)
  find-both q [] ys = refl
  find-both q (x ∷ xs) ys =
      ap (cond (eq_by_cmp R q x.0) (Some x.1)) (find-both q xs ys) ∙ cond-or_else (eq_by_cmp R q x.0) x.1 (fin.find R q xs) (fin.find R q ys)

  pub none_above : (x : K) (es : List (K × V)) → T (below_all R x es) → fin.find R x es ≡ None
  none_above x [] h = refl
  none_above x (e ∷ es) h =
      ap (λ r. cond (is_eq r) (Some e.1) (fin.find R x es)) (less (R x e.0) (first (is_lt (R x e.0)) (below_all R x es) h))
      ∙ none_above x es (second (is_lt (R x e.0)) (below_all R x es) h)

  pub below_both : (x : K) (xs ys : List (K × V)) → T (below_all R x xs) → T (below_all R x ys) → T (below_all R x (xs ++ ys))
  below_both x [] ys h g = g
  below_both x (e ∷ xs) ys h g =
      both (is_lt (R x e.0)) (below_all R x (xs ++ ys)) (first (is_lt (R x e.0)) (below_all R x xs) h) (below_both x xs ys (second (is_lt (R x e.0)) (below_all R x xs) h) g)

  pub sorted_both : (xs ys : List (K × V)) → T (fin.is_sorted R xs) → T (fin.is_sorted R ys) → AllByRecursion (λ e. T (below_all R e.0 ys)) xs → T (fin.is_sorted R (xs ++ ys))
  sorted_both [] ys h g b = g
  sorted_both (e ∷ xs) ys h g b =
      both (below_all R e.0 (xs ++ ys)) (fin.is_sorted R (xs ++ ys))
      (below_both e.0 xs ys (first (below_all R e.0 xs) (fin.is_sorted R xs) h) b.0)
      (sorted_both xs ys (second (below_all R e.0 xs) (fin.is_sorted R xs) h) g b.1)
