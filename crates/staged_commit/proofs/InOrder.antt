-- Adds put in one after the other: each stays, in the order of the files.
use Rattle.std.proofs.Common.{◌≡◌, ℕ, ◌+◌, ◌≤◌, nat_lt, arith, Some, None, unwrap_or, length, List, [], ◌∷◌, ◌++◌, map, Bool, true, false, ◌&&◌, ◌||◌, not, cond, fold, refl, sym, ap, ◌∙◌}
use Rattle.std.specs.declared.cmp.Ordering.{Ordering}
use Rattle.std.specs.declared.cmp.Ordering.TheVariants.{Less, Equal, Greater}
use Rattle.std.specs.Ordering.{is_eq, is_lt, ordering_reverse}
use Rattle.std.specs.List.{AllByRecursion, insert, list_all, list_any, position, position_or_len}
use Rattle.std.specs.List.Sorted.{IsPermutation, IsStrictlySortedBy}
use Rattle.std.proofs.Math.Numerals.{one-add}
use Rattle.std.proofs.lemmas.Bool.{and_from, and_parts, ltb-false, not-true, or_parts}
use Rattle.std.proofs.lemmas.List.{append-nil}
use Rattle.std.proofs.lemmas.List.Folds.{list_any-append}
use Rattle.std.proofs.lemmas.List.Sums.{prefix_len-le-length}
use Rattle.std.proofs.lemmas.List.Sorted.{IsPermutation-append_left, IsPermutation-cons, IsPermutation-middle, IsPermutation-refl, IsPermutation-sym, IsPermutation-trans}
use Rattle.action_types.specs.declared.actions.Action.TheVariants as action
use Rattle.action_types.specs.declared.actions.Add.{Add}
use Rattle.action_types.specs.Files.{File, file_cmp, file_cmp_total, file_of_add, same_file}
use Rattle.staged_commit.specs.Adds.{IsInOrder, adds_in_order, are_new, has_file, have_own_files, is_after, with_add}

-- ---- the place of an add

-- in a list of what stands for adds, as references
module _ {X : Type 0} (f : X → Add) where
  put-here : (t : Bool) (x y : X) (ys : List X) (n : ℕ) → map f (insert ys n x) ≡ with_add (f x) (map f ys)
      → map f (insert (y ∷ ys) (cond (not t) (1 + n) 0) x) ≡ cond t (f x ∷ f y ∷ map f ys) (f y ∷ with_add (f x) (map f ys))
  put-here true x y ys n h = refl
  put-here false x y ys n h = rw one-add (ap (λ l. f y ∷ l) h)

  -- an add that is put before the first one of a later file
  pub put-with_add : (x : X) (ys : List X) → map f (insert ys (position_or_len (λ y. is_after (file_of_add (f x)) (f y)) ys) x) ≡ with_add (f x) (map f ys)
  put-with_add x [] = refl
  put-with_add x (y ∷ ys) =
      put-here (is_lt (file_cmp (file_of_add (f x)) (file_of_add (f y)))) x y ys (position_or_len (λ z. is_after (file_of_add (f x)) (f z)) ys) (put-with_add x ys)

pub map-of : {X : Type 0} (f : X → Add) (xs : List X) → map (λ x. action.Add (f x)) xs ≡ map action.Add (map f xs)
map-of f [] = refl
map-of f (x ∷ xs) = ap (λ l. action.Add (f x) ∷ l) (map-of f xs)

first-or-len : (n len : ℕ) (b : Bool) → nat_lt n len ≡ b → n ≤ len → unwrap_or (cond b (Some n) None) len ≡ n
first-or-len n len true e h = refl
first-or-len n len false e h = omega (arith, ltb-false n len e)

pub place-of-first : {X : Type 0} (p : X → Bool) (xs : List X) → unwrap_or (position p xs) (length xs) ≡ position_or_len p xs
place-of-first p xs = first-or-len (position_or_len p xs) (length xs) (nat_lt (position_or_len p xs) (length xs)) refl (prefix_len-le-length (λ x. not (p x)) xs)

-- ---- tests of all, and of one

and-swap : (a b c : Bool) → (b && (a && c)) ≡ (a && (b && c))
and-swap true true c = refl
and-swap true false c = refl
and-swap false true c = refl
and-swap false false c = refl

or-swap : (a b c : Bool) → (b || (a || c)) ≡ (a || (b || c))
or-swap true true c = refl
or-swap true false c = refl
or-swap false true c = refl
or-swap false false c = refl

or-last : (a b : Bool) → (a || b) ≡ (b || (a || false))
or-last true true = refl
or-last true false = refl
or-last false true = refl
or-last false false = refl

module _ (q : Add → Bool) where
  all-here : (t : Bool) (a b : Add) (bs : List Add) → list_all q (with_add a bs) ≡ (q a && list_all q bs)
      → list_all q (cond t (a ∷ b ∷ bs) (b ∷ with_add a bs)) ≡ (q a && (q b && list_all q bs))
  all-here true a b bs h = refl
  all-here false a b bs h = ap (λ t. q b && t) h ∙ and-swap (q a) (q b) (list_all q bs)

  all-with : (a : Add) (bs : List Add) → list_all q (with_add a bs) ≡ (q a && list_all q bs)
  all-with a [] = refl
  all-with a (b ∷ bs) = all-here (is_lt (file_cmp (file_of_add a) (file_of_add b))) a b bs (all-with a bs)

  any-here : (t : Bool) (a b : Add) (bs : List Add) → list_any q (with_add a bs) ≡ (q a || list_any q bs)
      → list_any q (cond t (a ∷ b ∷ bs) (b ∷ with_add a bs)) ≡ (q a || (q b || list_any q bs))
  any-here true a b bs h = refl
  any-here false a b bs h = ap (λ t. q b || t) h ∙ or-swap (q a) (q b) (list_any q bs)

  any-with : (a : Add) (bs : List Add) → list_any q (with_add a bs) ≡ (q a || list_any q bs)
  any-with a [] = refl
  any-with a (b ∷ bs) = any-here (is_lt (file_cmp (file_of_add a) (file_of_add b))) a b bs (any-with a bs)

  all-put : (done more : List Add) → list_all q done ≡ true → list_all q more ≡ true → list_all q (fold (λ l a. with_add a l) done more) ≡ true
  all-put done [] h k = h
  all-put done (a ∷ more) h k =
      let parts = and_parts (q a) (list_all q more) k in
      all-put (with_add a done) more (all-with a done ∙ and_from (q a) (list_all q done) parts.0 h) parts.1

  -- a test that all the adds pass, they pass in order
  pub all-in-order : (adds : List Add) → list_all q adds ≡ true → list_all q (adds_in_order adds) ≡ true
  all-in-order adds h = all-put [] adds refl h

-- ---- the order

-- the files are all after this one
abbrev After : File → List Add → Type 0
After f adds = AllByRecursion (λ q. file_cmp f q ≡ Less) (map file_of_add adds)

-- each file is before those that follow
abbrev pub Rising : List Add → Type 0
Rising adds = IsStrictlySortedBy file_cmp (map file_of_add adds)

less-from-is_lt : (o : Ordering) → is_lt o ≡ true → o ≡ Less
less-from-is_lt Less e = refl
less-from-is_lt Equal e = cc
less-from-is_lt Greater e = cc

-- a file is not another one that comes after it
pub apart : (f g : File) → file_cmp f g ≡ Less → same_file f g ≡ false
apart f g h = ap is_eq h

turned : (f g : File) (o : Ordering) → file_cmp g f ≡ o → is_lt (file_cmp f g) ≡ false → same_file g f ≡ false → file_cmp g f ≡ Less
turned f g Less e h k = e
turned f g Equal e h k = let tied : same_file g f ≡ true = ap is_eq e in cc
turned f g Greater e h k =
    let back : file_cmp f g ≡ Less = file_cmp_total.antisymm f g ∙ ap ordering_reverse e in
    let lt : is_lt (file_cmp f g) ≡ true = ap is_lt back in cc

after-trans : (f g : File) (bs : List Add) → file_cmp f g ≡ Less → After g bs → After f bs
after-trans f g [] h k = tt
after-trans f g (b ∷ bs) h k = (file_cmp_total.trans f g (file_of_add b) h k.0, after-trans f g bs h k.1)

after-here : (t : Bool) (f : File) (a b : Add) (bs : List Add) → file_cmp f (file_of_add a) ≡ Less → After f (b ∷ bs) → After f (with_add a bs)
    → After f (cond t (a ∷ b ∷ bs) (b ∷ with_add a bs))
after-here true f a b bs h k m = (h, k)
after-here false f a b bs h k m = (k.0, m)

after-with : (f : File) (a : Add) (bs : List Add) → file_cmp f (file_of_add a) ≡ Less → After f bs → After f (with_add a bs)
after-with f a [] h k = (h, tt)
after-with f a (b ∷ bs) h k = after-here (is_lt (file_cmp (file_of_add a) (file_of_add b))) f a b bs h k (after-with f a bs h k.1)

rising-here : (t : Bool) (a b : Add) (bs : List Add) → is_lt (file_cmp (file_of_add a) (file_of_add b)) ≡ t → has_file (file_of_add a) b ≡ false → Rising (b ∷ bs)
    → Rising (with_add a bs) → Rising (cond t (a ∷ b ∷ bs) (b ∷ with_add a bs))
unfolding IsStrictlySortedBy
rising-here true a b bs e k r m =
    let lt = less-from-is_lt (file_cmp (file_of_add a) (file_of_add b)) e in ((lt, after-trans (file_of_add a) (file_of_add b) bs lt r.0), r)
rising-here false a b bs e k r m = (after-with (file_of_add b) a bs (turned (file_of_add a) (file_of_add b) (file_cmp (file_of_add b) (file_of_add a)) refl e k) r.0, m)

rising-with : (a : Add) (bs : List Add) → list_any (has_file (file_of_add a)) bs ≡ false → Rising bs → Rising (with_add a bs)
unfolding IsStrictlySortedBy
rising-with a [] h r = (tt, tt)
rising-with a (b ∷ bs) h r =
    let parts = or_parts (has_file (file_of_add a) b) (list_any (has_file (file_of_add a)) bs) h in
    rising-here (is_lt (file_cmp (file_of_add a) (file_of_add b))) a b bs refl parts.0 r (rising-with a bs parts.1 r.1)

rising-put : (before done more : List Add) → are_new before more ≡ true → ((f : File) → list_any (has_file f) done ≡ list_any (has_file f) before)
    → Rising done → Rising (fold (λ l a. with_add a l) done more)
rising-put before done [] n same r = r
rising-put before done (a ∷ more) n same r =
    let parts = and_parts (not (list_any (has_file (file_of_add a)) before)) (are_new (before ++ a ∷ []) more) n in
    rising-put (before ++ a ∷ []) (with_add a done) more parts.1
    (λ f.
    any-with (has_file f) a done ∙ ap (λ b. has_file f a || b) (same f)
    ∙ or-last (has_file f a) (list_any (has_file f) before)
    ∙ sym (list_any-append (has_file f) before (a ∷ [])))
    (rising-with a done (same (file_of_add a) ∙ not-true (list_any (has_file (file_of_add a)) before) parts.0) r)

-- adds of which no file stands twice stand in strictly rising order
pub rising-in-order : (adds : List Add) → have_own_files adds ≡ true → Rising (adds_in_order adds)
unfolding have_own_files IsStrictlySortedBy
rising-in-order adds h = rising-put [] [] adds h (λ f. refl) tt

-- ---- the same adds

swapped : (t : Bool) (a b : Add) (bs : List Add) → IsPermutation (a ∷ bs) (with_add a bs) → IsPermutation (a ∷ b ∷ bs) (cond t (a ∷ b ∷ bs) (b ∷ with_add a bs))
swapped true a b bs h = IsPermutation-refl (a ∷ b ∷ bs)
swapped false a b bs h =
    IsPermutation-trans (a ∷ b ∷ bs) (b ∷ a ∷ bs) (b ∷ with_add a bs)
    (IsPermutation-sym (b ∷ a ∷ bs) (a ∷ b ∷ bs) (IsPermutation-middle (b ∷ []) a bs)) (IsPermutation-cons b (a ∷ bs) (with_add a bs) h)

one-put : (a : Add) (bs : List Add) → IsPermutation (a ∷ bs) (with_add a bs)
one-put a [] = IsPermutation-refl (a ∷ [])
one-put a (b ∷ bs) = swapped (is_after (file_of_add a) b) a b bs (one-put a bs)

all-put-same : (done more : List Add) → IsPermutation (done ++ more) (fold (λ l a. with_add a l) done more)
all-put-same done [] = let same : done ++ [] ≡ done = append-nil done in rw same (IsPermutation-refl done)
all-put-same done (a ∷ more) =
    IsPermutation-trans (done ++ a ∷ more) ((a ∷ done) ++ more) (fold (λ l b. with_add b l) (with_add a done) more)
    (IsPermutation-middle done a more)
    (IsPermutation-trans ((a ∷ done) ++ more) (with_add a done ++ more) (fold (λ l b. with_add b l) (with_add a done) more)
    (IsPermutation-append_left more (a ∷ done) (with_add a done) (one-put a done)) (all-put-same (with_add a done) more))

pub in-order : (adds : List Add) → have_own_files adds ≡ true → IsInOrder adds (adds_in_order adds)
in-order adds h = record { same = all-put-same [] adds; rising = rising-in-order adds h }
