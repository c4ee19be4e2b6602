-- What is told at some keys, as a list in order of the keys.
use Rattle.std.proofs.Common.{◌≡◌, Bool, true, false, ◌||◌, ◌&&◌, cond, List, [], ◌∷◌, map, refl, ap, sym, subst, ◌∙◌}
use Rattle.std.specs.Prelude.{Option, Some, None, option_map, find, IfSome}
use Rattle.std.specs.declared.cmp.Ordering.{Ordering}
use Rattle.std.specs.declared.cmp.Ordering.TheVariants.{Less, Equal, Greater}
use Rattle.std.specs.Cmp.{IsTotalOrder, tied_itself}
use Rattle.std.specs.Ordering.{eq_by_cmp, is_eq, is_lt}
use Rattle.std.specs.List.{AllByRecursion, cons_option, filter_map, flat_map, list_any}
use Rattle.std.specs.List.Sorted.{IsStrictlySortedBy}
use Rattle.std.specs.FinMap as fin
use Rattle.std.specs.FinMap.Entries.{below_all}
use Rattle.std.proofs.lemmas.List.Folds.{list_any-append}
use lib.Dec.{T}
use Rattle.reconcile.specs.Replay.{or_else, last_said}
use Rattle.reconcile.specs.Walks.{Lists, in_order}
use Rattle.reconcile.proofs.Last.{newer}

first : (a b : Bool) → T (a && b) → T a
first true b p = tt
first false b p = p

second : (a b : Bool) → T (a && b) → T b
second true b p = p
second false b p = absurd p

less : (o : Ordering) → T (is_lt o) → o ≡ Less
less Less p = refl
less Equal p = absurd p
less Greater p = absurd p

pub equal : (o : Ordering) → is_eq o ≡ true → o ≡ Equal
equal Less p = cc
equal Equal p = refl
equal Greater p = cc

none_left : (a b : Bool) → (a || b) ≡ false → a ≡ false
none_left true b e = e
none_left false b e = refl

none_right : (a b : Bool) → (a || b) ≡ false → b ≡ false
none_right true b e = cc
none_right false b e = e

-- ---- what a list says of a key that none of its elements names

abbrev pub hits : {K : Type 0} → (K → Bool) → Option K → Bool
hits test None = false
hits test (Some k) = test k

list_any-cons_option : {K : Type 0} (test : K → Bool) (o : Option K) (ks : List K) → list_any test (cons_option o ks) ≡ (hits test o || list_any test ks)
list_any-cons_option test None ks = refl
list_any-cons_option test (Some k) ks = refl

module _ {A B K : Type 0} (test : K → Bool) (names : A → Option K) (says : A → Option B) (silent : (a : A) → hits test (names a) ≡ false → says a ≡ None) where
  pub said_none : (xs : List A) → list_any test (filter_map names xs) ≡ false → last_said says xs ≡ None
  said_none [] e = refl
  said_none (x ∷ xs) e =
      let f = sym (list_any-cons_option test (names x) (filter_map names xs)) ∙ e in
      λ i. or_else (said_none xs (none_right (hits test (names x)) (list_any test (filter_map names xs)) f) i) (silent x (none_left (hits test (names x)) (list_any test (filter_map names xs)) f) i)

  pub log_none : (xss : List (List A)) → list_any test (flat_map (filter_map names) xss) ≡ false → last_said (last_said says) xss ≡ None
  log_none [] e = refl
  log_none (xs ∷ xss) e =
      let f = sym (list_any-append test (filter_map names xs) (flat_map (filter_map names) xss)) ∙ e in
      λ i. or_else (log_none xss (none_right (list_any test (filter_map names xs)) (list_any test (flat_map (filter_map names) xss)) f) i)
      (said_none xs (none_left (list_any test (filter_map names xs)) (list_any test (flat_map (filter_map names) xss)) f) i)

-- ---- what is true of all that is said

either : {B : Type 0} (P : B → Type 0) (a b : Option B) → IfSome a P → IfSome b P → IfSome (or_else a b) P
either P None b p q = q
either P (Some a) b p q = p

pub said_so : {A B : Type 0} (P : B → Type 0) (says : A → Option B) → ((a : A) → IfSome (says a) P) → (xs : List A) → IfSome (last_said says xs) P
said_so P says each [] = tt
said_so P says each (x ∷ xs) = either P (last_said says xs) (says x) (said_so P says each xs) (each x)

-- ---- the list in order

same_twice : {V : Type 0} (a : Bool) (o : Option V) → or_else o (cond a o None) ≡ o
same_twice true None = refl
same_twice false None = refl
same_twice a (Some v) = refl

join : {V : Type 0} (b a : Bool) (here there : Option V) → (b ≡ true → here ≡ there) → or_else (cond b here None) (cond a there None) ≡ cond (b || a) there None
join true a here there e = ap (λ h. or_else h (cond a there None)) (e refl) ∙ same_twice a there
join false a here there e = refl

never : {V : Type 0} (b : Bool) (o : Option V) → o ≡ or_else (cond b None None) o
never true o = refl
never false o = refl

module _ {K V : Type 0} {R : K → K → Ordering} (o : IsTotalOrder R) (exact : fin.IsAntisymmetric R) where
  step : (q k : K) (v : Option V) (es : List (K × V)) → fin.find R q (cons_option (option_map (λ v. (k, v)) v) es) ≡ or_else (cond (eq_by_cmp R q k) v None) (fin.find R q es)
  step q k None es = never (eq_by_cmp R q k) (fin.find R q es)
  step q k (Some v) es = newer (eq_by_cmp R q k) v (fin.find R q es)

  find-told : (told : K → Option V) (ks : List K) (q : K)
      → fin.find R q (filter_map (λ k. option_map (λ v. (k, v)) (told k)) ks) ≡ cond (list_any (eq_by_cmp R q) ks) (told q) None
  find-told told [] q = refl
  find-told told (k ∷ ks) q =
      step q k (told k) (filter_map (λ k. option_map (λ v. (k, v)) (told k)) ks) ∙ ap (or_else (cond (eq_by_cmp R q k) (told k) None)) (find-told told ks q)
      ∙ join (eq_by_cmp R q k) (list_any (eq_by_cmp R q) ks) (told k) (told q) (λ t. ap told (sym (exact q k (equal (R q k) t))))

  whole : (b : Bool) (v : Option V) → (b ≡ false → v ≡ None) → cond b v None ≡ v
  whole true v e = refl
  whole false v e = sym (e refl)

  get-in_order : (told : K → Option V) (ks : List K) → ((q : K) → list_any (eq_by_cmp R q) ks ≡ false → told q ≡ None)
      → (q : K) → fin.get (fin.from_entries {R = R} (filter_map (λ k. option_map (λ v. (k, v)) (told k)) ks)) q ≡ told q
  get-in_order told ks unnamed q =
      fin.get-from_entries o (filter_map (λ k. option_map (λ v. (k, v)) (told k)) ks) q ∙ find-told told ks q
      ∙ whole (list_any (eq_by_cmp R q) ks) (told q) (unnamed q)

  -- a map that tells the same has the same values
  pub values-in_order : (told : K → Option V) (ks : List K) → ((q : K) → list_any (eq_by_cmp R q) ks ≡ false → told q ≡ None)
      → (m : fin.FinMap R V) → ((q : K) → fin.get m q ≡ told q) → fin.values m ≡ in_order R told ks
  values-in_order told ks unnamed m same =
      ap fin.values (fin.same_map o exact m (fin.from_entries (filter_map (λ k. option_map (λ v. (k, v)) (told k)) ks)) (λ q. same q ∙ sym (get-in_order told ks unnamed q)))

  -- ---- its keys

  all_less : (x : K) (es : List (K × V)) → T (below_all R x es) → AllByRecursion (λ y. R x y ≡ Less) (map (λ e. e.0) es)
  all_less x [] h = tt
  all_less x (e ∷ es) h = (less (R x e.0) (first (is_lt (R x e.0)) (below_all R x es) h), all_less x es (second (is_lt (R x e.0)) (below_all R x es) h))

  strict : (es : List (K × V)) → T (fin.is_sorted R es) → IsStrictlySortedBy R (map (λ e. e.0) es)
  unfolding IsStrictlySortedBy
  strict [] h = tt
  strict (e ∷ es) h = (all_less e.0 es (first (below_all R e.0 es) (fin.is_sorted R es) h), strict es (second (below_all R e.0 es) (fin.is_sorted R es) h))

  above_none : (x : K) (es : List (K × V)) → AllByRecursion (λ y. R x y ≡ Less) (map (λ e. e.0) es) → fin.find R x es ≡ None
  above_none x [] h = refl
  above_none x (e ∷ es) h = ap (λ r. cond (is_eq r) (Some e.1) (fin.find R x es)) h.0 ∙ above_none x es h.1

  in_rest : (b : Bool) (k x : K) (v w : V) (es : List (K × V)) → eq_by_cmp R k x ≡ b → fin.find R x es ≡ None → fin.find R k es ≡ Some w → cond b (Some v) (fin.find R k es) ≡ Some w
  in_rest true k x v w es t none is =
      let e : None ≡ Some w = sym none ∙ ap (λ q. fin.find R q es) (sym (exact k x (equal (R k x) t))) ∙ is in cc
  in_rest false k x v w es t none is = is

  keyed : (key : V → K) (es : List (K × V)) → T (fin.is_sorted R es) → ((k : K) (v : V) → fin.find R k es ≡ Some v → key v ≡ k) → AllByRecursion (λ e. key e.1 ≡ e.0) es
  keyed key [] h own = tt
  keyed key (e ∷ es) h own = (
    own e.0 e.1 (ap (λ r. cond (is_eq r) (Some e.1) (fin.find R e.0 es)) (tied_itself o e.0)),
    keyed key es (second (below_all R e.0 es) (fin.is_sorted R es) h) (λ k v is. own k v (in_rest (eq_by_cmp R k e.0) k e.0 e.1 v es refl (above_none e.0 es (all_less e.0 es (first (below_all R e.0 es) (fin.is_sorted R es) h))) is)),
  )

  map-keyed : (key : V → K) (es : List (K × V)) → AllByRecursion (λ e. key e.1 ≡ e.0) es → map key (map (λ e. e.1) es) ≡ map (λ e. e.0) es
  map-keyed key [] h = refl
  map-keyed key (e ∷ es) h = λ i. h.0 i ∷ map-keyed key es h.1 i

  find-keyed : (key : V → K) (q : K) (es : List (K × V)) → AllByRecursion (λ e. key e.1 ≡ e.0) es → find (λ v. eq_by_cmp R q (key v)) (map (λ e. e.1) es) ≡ fin.find R q es
  find-keyed key q [] h = refl
  find-keyed key q (e ∷ es) h = λ i. cond (eq_by_cmp R q (h.0 i)) (Some e.1) (find-keyed key q es h.1 i)

  -- the list in order has what is told, with rising keys
  pub Lists-in_order : (key : V → K) (told : K → Option V) (ks : List K) → ((q : K) → list_any (eq_by_cmp R q) ks ≡ false → told q ≡ None)
      → ((k : K) (v : V) → told k ≡ Some v → key v ≡ k) → Lists R key (in_order R told ks) told
  Lists-in_order key told ks unnamed own =
      let m : fin.FinMap R V = fin.from_entries (filter_map (λ k. option_map (λ v. (k, v)) (told k)) ks) in
      let tells : (q : K) → fin.find R q (fin.entries m) ≡ told q = λ q. sym (fin.get-entries m q) ∙ get-in_order told ks unnamed q in
      let each : AllByRecursion (λ e. key e.1 ≡ e.0) (fin.entries m) = keyed key (fin.entries m) (fin.entries_sorted m) (λ k v is. own k v (sym (tells k) ∙ is)) in
      record {
        rising = subst (IsStrictlySortedBy R) (sym (map-keyed key (fin.entries m) each)) (strict (fin.entries m) (fin.entries_sorted m));
        tells = λ q. find-keyed key q (fin.entries m) each ∙ tells q;
      }
