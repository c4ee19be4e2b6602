-- Names and pairs put in their places.
use Rattle.std.proofs.Common.{Bool, true, false, not, cond, ◌≡◌, ℕ, zero, suc, ◌+◌, List, [], ◌∷◌, map, Option, Some, None, Ordering, Less, Equal, Greater, is_le, bytes_eq, slice_get, set, insert, drop, length, refl, sym, ap, ◌∙◌, subst, arith}
use Rattle.std.specs.List.{position_or_len}
use Rattle.std.specs.Ordering.{match_ordering}
use Rattle.std.proofs.Math.Numerals.{one-add}
use Rattle.std.proofs.lemmas.Cmp.{nat_list_cmp_total, tied_itself}
use Rattle.std.proofs.lemmas.Slice.Eq.{bytes_eq-Decides}
use Rattle.action_types.specs.Files.{name_cmp}
use Rattle.action_fields.specs.Types.{Pair}
use Rattle.reconcile.proofs.Named.{exact_names}
use Rattle.staged_commit.specs.Changes.{put_pair}
use Rattle.staged_commit.specs.Names.{with_name, with_pair}
use Rattle.staged_commit.specs.Places.{is_not_before, pair_stands_at, stands_at}

pub drop-all : {X : Type 0} (xs : List X) → drop (length xs) xs ≡ []
drop-all [] = refl
drop-all (x ∷ xs) = drop-all xs

-- ---- two names

same-of : (a b : List ℕ) → bytes_eq b a ≡ true → name_cmp a b ≡ Equal
same-of a b h = let same : b ≡ a = (bytes_eq-Decides b a).0 h in ap (name_cmp a) same ∙ tied_itself nat_list_cmp_total a

eq-of : (a b : List ℕ) → name_cmp a b ≡ Equal → bytes_eq b a ≡ true
eq-of a b h = (bytes_eq-Decides b a).1 (sym (exact_names a b h))

-- ---- names

later-name : (name other : List ℕ) (names : List (List ℕ)) (n : ℕ) (b : Bool) → stands_at name (other ∷ names) (1 + n) ≡ b → stands_at name names n ≡ b
later-name name other names n b h = let e : 1 + n ≡ suc n = omega arith in subst (λ (k : ℕ). stands_at name (other ∷ names) k ≡ b) e h

module _ {X : Type 0} (f : X → List ℕ) where
  name-here : (o : Ordering) (x y : X) (ys : List X) (n : ℕ) → name_cmp (f x) (f y) ≡ o
      → (stands_at (f x) (map f ys) n ≡ false → map f (insert ys n x) ≡ with_name (f x) (map f ys))
      → stands_at (f x) (f y ∷ map f ys) (cond (not (is_le o)) (1 + n) 0) ≡ false
      → map f (insert (y ∷ ys) (cond (not (is_le o)) (1 + n) 0) x) ≡ match_ordering o (f x ∷ f y ∷ map f ys) (f y ∷ map f ys) (f y ∷ with_name (f x) (map f ys))
  name-here Less x y ys n e h s = refl
  name-here Equal x y ys n e h s = let there : bytes_eq (f y) (f x) ≡ true = eq-of (f x) (f y) e in cc
  name-here Greater x y ys n e h s = rw one-add (ap (λ l. f y ∷ l) (h (later-name (f x) (f y) (map f ys) n false s)))

  -- a name that is put before the first one that is not before it, where it does not stand
  pub put-name : (x : X) (ys : List X) → stands_at (f x) (map f ys) (position_or_len (λ y. is_not_before (f x) (f y)) ys) ≡ false
      → map f (insert ys (position_or_len (λ y. is_not_before (f x) (f y)) ys) x) ≡ with_name (f x) (map f ys)
  put-name x [] s = refl
  put-name x (y ∷ ys) s = name-here (name_cmp (f x) (f y)) x y ys (position_or_len (λ z. is_not_before (f x) (f z)) ys) refl (put-name x ys) s

  there-name : (o : Ordering) (x y : X) (ys : List X) (n : ℕ) → name_cmp (f x) (f y) ≡ o
      → (stands_at (f x) (map f ys) n ≡ true → map f ys ≡ with_name (f x) (map f ys))
      → stands_at (f x) (f y ∷ map f ys) (cond (not (is_le o)) (1 + n) 0) ≡ true
      → f y ∷ map f ys ≡ match_ordering o (f x ∷ f y ∷ map f ys) (f y ∷ map f ys) (f y ∷ with_name (f x) (map f ys))
  there-name Less x y ys n e h s = let same : name_cmp (f x) (f y) ≡ Equal = same-of (f x) (f y) s in cc
  there-name Equal x y ys n e h s = refl
  there-name Greater x y ys n e h s = ap (λ l. f y ∷ l) (h (later-name (f x) (f y) (map f ys) n true s))

  -- one that stands there is not put in again
  pub leave-name : (x : X) (ys : List X) → stands_at (f x) (map f ys) (position_or_len (λ y. is_not_before (f x) (f y)) ys) ≡ true → map f ys ≡ with_name (f x) (map f ys)
  leave-name x [] s = cc
  leave-name x (y ∷ ys) s = there-name (name_cmp (f x) (f y)) x y ys (position_or_len (λ z. is_not_before (f x) (f z)) ys) refl (leave-name x ys) s

-- ---- pairs

later-pair : (name : List ℕ) (other : Pair) (pairs : List Pair) (n : ℕ) (b : Bool) → pair_stands_at name (other ∷ pairs) (1 + n) ≡ b → pair_stands_at name pairs n ≡ b
later-pair name other pairs n b h = let e : 1 + n ≡ suc n = omega arith in subst (λ (k : ℕ). pair_stands_at name (other ∷ pairs) k ≡ b) e h

module _ {X : Type 0} (f : X → Pair) where
  put-here : (o : Ordering) (x y : X) (ys : List X) (n : ℕ) → name_cmp (f x).0 (f y).0 ≡ o
      → (pair_stands_at (f x).0 (map f ys) n ≡ false → map f (insert ys n x) ≡ put_pair (f x) (map f ys))
      → pair_stands_at (f x).0 (f y ∷ map f ys) (cond (not (is_le o)) (1 + n) 0) ≡ false
      → map f (insert (y ∷ ys) (cond (not (is_le o)) (1 + n) 0) x) ≡ match_ordering o (f x ∷ f y ∷ map f ys) (f x ∷ map f ys) (f y ∷ put_pair (f x) (map f ys))
  put-here Less x y ys n e h s = refl
  put-here Equal x y ys n e h s = let there : bytes_eq (f y).0 (f x).0 ≡ true = eq-of (f x).0 (f y).0 e in cc
  put-here Greater x y ys n e h s = rw one-add (ap (λ l. f y ∷ l) (h (later-pair (f x).0 (f y) (map f ys) n false s)))

  -- a pair that is put before the first one whose name is not before its own, where its name does not stand
  pub put-new : (x : X) (ys : List X) → pair_stands_at (f x).0 (map f ys) (position_or_len (λ y. is_not_before (f x).0 (f y).0) ys) ≡ false
      → map f (insert ys (position_or_len (λ y. is_not_before (f x).0 (f y).0) ys) x) ≡ put_pair (f x) (map f ys)
  put-new x [] s = refl
  put-new x (y ∷ ys) s = put-here (name_cmp (f x).0 (f y).0) x y ys (position_or_len (λ z. is_not_before (f x).0 (f z).0) ys) refl (put-new x ys) s

  set-here : (o : Ordering) (x y : X) (ys : List X) (n : ℕ) → name_cmp (f x).0 (f y).0 ≡ o
      → (pair_stands_at (f x).0 (map f ys) n ≡ true → map f (set ys n x) ≡ put_pair (f x) (map f ys))
      → pair_stands_at (f x).0 (f y ∷ map f ys) (cond (not (is_le o)) (1 + n) 0) ≡ true
      → map f (set (y ∷ ys) (cond (not (is_le o)) (1 + n) 0) x) ≡ match_ordering o (f x ∷ f y ∷ map f ys) (f x ∷ map f ys) (f y ∷ put_pair (f x) (map f ys))
  set-here Less x y ys n e h s = let same : name_cmp (f x).0 (f y).0 ≡ Equal = same-of (f x).0 (f y).0 s in cc
  set-here Equal x y ys n e h s = refl
  set-here Greater x y ys n e h s = rw one-add (ap (λ l. f y ∷ l) (h (later-pair (f x).0 (f y) (map f ys) n true s)))

  -- one whose name stands there takes its place
  pub put-over : (x : X) (ys : List X) → pair_stands_at (f x).0 (map f ys) (position_or_len (λ y. is_not_before (f x).0 (f y).0) ys) ≡ true
      → map f (set ys (position_or_len (λ y. is_not_before (f x).0 (f y).0) ys) x) ≡ put_pair (f x) (map f ys)
  put-over x [] s = cc
  put-over x (y ∷ ys) s = set-here (name_cmp (f x).0 (f y).0) x y ys (position_or_len (λ z. is_not_before (f x).0 (f z).0) ys) refl (put-over x ys) s

  keep-here : (o : Ordering) (x y : X) (ys : List X) (n : ℕ) → name_cmp (f x).0 (f y).0 ≡ o
      → (pair_stands_at (f x).0 (map f ys) n ≡ false → map f (insert ys n x) ≡ with_pair (f x) (map f ys))
      → pair_stands_at (f x).0 (f y ∷ map f ys) (cond (not (is_le o)) (1 + n) 0) ≡ false
      → map f (insert (y ∷ ys) (cond (not (is_le o)) (1 + n) 0) x) ≡ match_ordering o (f x ∷ f y ∷ map f ys) (f y ∷ map f ys) (f y ∷ with_pair (f x) (map f ys))
  keep-here Less x y ys n e h s = refl
  keep-here Equal x y ys n e h s = let there : bytes_eq (f y).0 (f x).0 ≡ true = eq-of (f x).0 (f y).0 e in cc
  keep-here Greater x y ys n e h s = rw one-add (ap (λ l. f y ∷ l) (h (later-pair (f x).0 (f y) (map f ys) n false s)))

  pub keep-new : (x : X) (ys : List X) → pair_stands_at (f x).0 (map f ys) (position_or_len (λ y. is_not_before (f x).0 (f y).0) ys) ≡ false
      → map f (insert ys (position_or_len (λ y. is_not_before (f x).0 (f y).0) ys) x) ≡ with_pair (f x) (map f ys)
  keep-new x [] s = refl
  keep-new x (y ∷ ys) s = keep-here (name_cmp (f x).0 (f y).0) x y ys (position_or_len (λ z. is_not_before (f x).0 (f z).0) ys) refl (keep-new x ys) s

  leave-here : (o : Ordering) (x y : X) (ys : List X) (n : ℕ) → name_cmp (f x).0 (f y).0 ≡ o
      → (pair_stands_at (f x).0 (map f ys) n ≡ true → map f ys ≡ with_pair (f x) (map f ys))
      → pair_stands_at (f x).0 (f y ∷ map f ys) (cond (not (is_le o)) (1 + n) 0) ≡ true
      → f y ∷ map f ys ≡ match_ordering o (f x ∷ f y ∷ map f ys) (f y ∷ map f ys) (f y ∷ with_pair (f x) (map f ys))
  leave-here Less x y ys n e h s = let same : name_cmp (f x).0 (f y).0 ≡ Equal = same-of (f x).0 (f y).0 s in cc
  leave-here Equal x y ys n e h s = refl
  leave-here Greater x y ys n e h s = ap (λ l. f y ∷ l) (h (later-pair (f x).0 (f y) (map f ys) n true s))

  -- one whose name stands there is left out
  pub keep-old : (x : X) (ys : List X) → pair_stands_at (f x).0 (map f ys) (position_or_len (λ y. is_not_before (f x).0 (f y).0) ys) ≡ true → map f ys ≡ with_pair (f x) (map f ys)
  keep-old x [] s = cc
  keep-old x (y ∷ ys) s = leave-here (name_cmp (f x).0 (f y).0) x y ys (position_or_len (λ z. is_not_before (f x).0 (f z).0) ys) refl (keep-old x ys) s
