-- What a request composes is a commit: the fields of its actions are valid, and no file, domain or application stands twice.
use Rattle.std.proofs.Common.{◌≡◌, ℕ, ℤ, pos, ◌≤ℤ◌, List, [], ◌∷◌, ◌++◌, map, Bool, true, false, ◌&&◌, ◌||◌, not, cond, bytes_eq, Option, Some, None, codes, is_some, if◌then◌else◌, Ordering, Less, Equal, Greater, is_lt, fold, refl, sym, ap, ap₂, ◌∙◌, subst, append_assoc, append-nil}
use Rattle.std.specs.Prelude.{⊤}
use Rattle.std.specs.List.{AllByRecursion, list_all, list_any}
use Rattle.std.specs.Ordering.{match_ordering, ordering_reverse}
use Rattle.std.specs.Cmp.{IsTotalOrder}
use Rattle.std.proofs.lemmas.Bool.{and_from, and_parts, not-true, or_parts}
use Rattle.std.proofs.lemmas.Cmp.{eq_by_cmp_equiv, nat_list_cmp_total}
use Rattle.std.proofs.lemmas.List.Folds.{list_any-append}
use Rattle.std.proofs.lemmas.Slice.Eq.{bytes_eq-Decides}
use Rattle.action_types.specs.declared.actions.Action.{Action}
use Rattle.action_types.specs.declared.actions.Action.TheVariants as action
use Rattle.action_types.specs.declared.actions.Add.{Add}
use Rattle.action_types.specs.declared.actions.Domain.{Domain}
use Rattle.action_types.specs.declared.actions.Info.{Info}
use Rattle.action_types.specs.declared.actions.Meta.{Meta}
use Rattle.action_types.specs.declared.actions.Remove.{Remove}
use Rattle.action_types.specs.declared.actions.Txn.{Txn}
use Rattle.action_types.specs.Files.{File, file_cmp_total, file_of_add, file_of_remove, name_cmp, same_file}
use Rattle.action_fields.specs.Types.{Pair}
use Rattle.action_fields.specs.Valid.{are_in_order, are_texts, has_valid_fields, is_from_zero, is_valid_meta}
use Rattle.action_json.specs.Commit.{IsCommit, are_new, double_of, if_some, is_info, is_meta, is_of_app, is_of_domain, mentions}
use Rattle.conflict_rules.specs.declared.intent.Change.{Change}
use Rattle.conflict_rules.specs.declared.intent.Intent.{Intent}
use Rattle.staged_commit.specs.Changes.{changed_meta, changes_of, given_pairs, metas_from, metas_of, protocols_of, put_pair, put_pairs}
use Rattle.staged_commit.specs.Composed.{composed_create, info_for, meta_for, protocol_for, txn_for}
use Rattle.staged_commit.specs.declared.create.Create.{Create}
use Rattle.table_rules.specs.Broken.{timestamps_property}
use Rattle.staged_commit.specs.Names.{with_pair}
use Rattle.staged_commit.specs.Sorting.{are_apart, placed, sorted}
use Rattle.staged_commit.specs.Writes.{IsReadable, IsWriteRequest, adds_cmp, composed_write, contents_of, domains_cmp, front_of, has_valid_meta, properties_of, removes_cmp, removes_have, same_add, same_domain, same_remove, with_time}
use Rattle.staged_commit.proofs.Commits.{from_zero, three}
use Rattle.staged_commit.proofs.Orders.{adds_total, domains_total, removes_total}
use Rattle.staged_commit.proofs.Sorts.{all-sorted}

-- ---- properties in order

-- the first of these, if there is one, is after this
abbrev is_below : Pair → List Pair → Bool
is_below p [] = true
is_below p (q ∷ qs) = is_lt (name_cmp p.0 q.0)

in-order-cons : (p : Pair) (ps : List Pair) → is_below p ps ≡ true → are_in_order ps ≡ true → are_in_order (p ∷ ps) ≡ true
in-order-cons p [] h k = refl
in-order-cons p (q ∷ qs) h k = and_from (is_lt (name_cmp p.0 q.0)) (are_in_order (q ∷ qs)) h k

in-order-parts : (p : Pair) (ps : List Pair) → are_in_order (p ∷ ps) ≡ true → (is_below p ps ≡ true) × (are_in_order ps ≡ true)
in-order-parts p [] h = (refl, refl)
in-order-parts p (q ∷ qs) h = and_parts (is_lt (name_cmp p.0 q.0)) (are_in_order (q ∷ qs)) h

turned : (a b : List ℕ) → name_cmp a b ≡ Greater → is_lt (name_cmp b a) ≡ true
turned a b h = ap is_lt (nat_list_cmp_total.antisymm b a ∙ ap ordering_reverse h)

below-same : (q p : Pair) (r : List ℕ) → name_cmp q.0 p.0 ≡ Equal → is_lt (name_cmp q.0 r) ≡ is_lt (name_cmp p.0 r)
below-same q p r h = ap is_lt (nat_list_cmp_total.congr q.0 p.0 r h)

below-as : (q p : Pair) (ps : List Pair) → name_cmp q.0 p.0 ≡ Equal → is_below p ps ≡ true → is_below q ps ≡ true
below-as q p [] h k = refl
below-as q p (r ∷ rs) h k = below-same q p r.0 h ∙ k

-- one that is put in is a text
put-text : (o : Ordering) (p q : Pair) (qs : List Pair) → is_some p.1 ≡ true → list_all (λ r. is_some r.1) (q ∷ qs) ≡ true → list_all (λ r. is_some r.1) (put_pair p qs) ≡ true
    → list_all (λ r. is_some r.1) (match_ordering o (p ∷ q ∷ qs) (p ∷ qs) (q ∷ put_pair p qs)) ≡ true
put-text Less p q qs h k m = and_from (is_some p.1) _ h k
put-text Equal p q qs h k m = and_from (is_some p.1) _ h (and_parts (is_some q.1) _ k).1
put-text Greater p q qs h k m = and_from (is_some q.1) _ (and_parts (is_some q.1) _ k).0 m

put-texts : (p : Pair) (qs : List Pair) → is_some p.1 ≡ true → list_all (λ r. is_some r.1) qs ≡ true → list_all (λ r. is_some r.1) (put_pair p qs) ≡ true
put-texts p [] h k = and_from (is_some p.1) true h refl
put-texts p (q ∷ qs) h k = put-text (name_cmp p.0 q.0) p q qs h k (put-texts p qs h (and_parts (is_some q.1) (list_all (λ r. is_some r.1) qs) k).1)

below-put : (o : Ordering) (b p q : Pair) (qs : List Pair) → is_lt (name_cmp b.0 p.0) ≡ true → is_lt (name_cmp b.0 q.0) ≡ true
    → is_below b (match_ordering o (p ∷ q ∷ qs) (p ∷ qs) (q ∷ put_pair p qs)) ≡ true
below-put Less b p q qs h k = h
below-put Equal b p q qs h k = h
below-put Greater b p q qs h k = k

below-putting : (b p : Pair) (qs : List Pair) → is_lt (name_cmp b.0 p.0) ≡ true → is_below b qs ≡ true → is_below b (put_pair p qs) ≡ true
below-putting b p [] h k = h
below-putting b p (q ∷ qs) h k = below-put (name_cmp p.0 q.0) b p q qs h k

put-ordered : (o : Ordering) (p q : Pair) (qs : List Pair) → name_cmp p.0 q.0 ≡ o → are_in_order (q ∷ qs) ≡ true → are_in_order (put_pair p qs) ≡ true
    → are_in_order (match_ordering o (p ∷ q ∷ qs) (p ∷ qs) (q ∷ put_pair p qs)) ≡ true
put-ordered Less p q qs e h m = in-order-cons p (q ∷ qs) (ap is_lt e) h
put-ordered Equal p q qs e h m =
    let parts = in-order-parts q qs h in in-order-cons p qs (below-as p q qs e parts.0) parts.1
put-ordered Greater p q qs e h m =
    let parts = in-order-parts q qs h in
    in-order-cons q (put_pair p qs) (below-putting q p qs (turned p.0 q.0 e) parts.0) m

put-order : (p : Pair) (qs : List Pair) → are_in_order qs ≡ true → are_in_order (put_pair p qs) ≡ true
put-order p [] h = refl
put-order p (q ∷ qs) h = put-ordered (name_cmp p.0 q.0) p q qs refl h (put-order p qs (in-order-parts q qs h).1)

put-valid : (p : Pair) (qs : List Pair) → is_some p.1 ≡ true → are_texts qs ≡ true → are_texts (put_pair p qs) ≡ true
put-valid p qs h k =
    let parts = and_parts (are_in_order qs) (list_all (λ r. is_some r.1) qs) k in
    and_from (are_in_order (put_pair p qs)) (list_all (λ r. is_some r.1) (put_pair p qs)) (put-order p qs parts.0) (put-texts p qs h parts.1)

putting-valid : (given old : List Pair) → list_all (λ r. is_some r.1) given ≡ true → are_texts old ≡ true → are_texts (put_pairs given old) ≡ true
putting-valid [] old h k = k
putting-valid (p ∷ given) old h k =
    let parts = and_parts (is_some p.1) (list_all (λ r. is_some r.1) given) h in
    putting-valid given (put_pair p old) parts.1 (put-valid p old parts.0 k)

-- the same of one that is put in unless its name is there
keep-text : (o : Ordering) (p q : Pair) (qs : List Pair) → is_some p.1 ≡ true → list_all (λ r. is_some r.1) (q ∷ qs) ≡ true → list_all (λ r. is_some r.1) (with_pair p qs) ≡ true
    → list_all (λ r. is_some r.1) (match_ordering o (p ∷ q ∷ qs) (q ∷ qs) (q ∷ with_pair p qs)) ≡ true
keep-text Less p q qs h k m = and_from (is_some p.1) _ h k
keep-text Equal p q qs h k m = k
keep-text Greater p q qs h k m = and_from (is_some q.1) _ (and_parts (is_some q.1) _ k).0 m

keep-texts : (p : Pair) (qs : List Pair) → is_some p.1 ≡ true → list_all (λ r. is_some r.1) qs ≡ true → list_all (λ r. is_some r.1) (with_pair p qs) ≡ true
keep-texts p [] h k = and_from (is_some p.1) true h refl
keep-texts p (q ∷ qs) h k = keep-text (name_cmp p.0 q.0) p q qs h k (keep-texts p qs h (and_parts (is_some q.1) (list_all (λ r. is_some r.1) qs) k).1)

below-keep : (o : Ordering) (b p q : Pair) (qs : List Pair) → is_lt (name_cmp b.0 p.0) ≡ true → is_lt (name_cmp b.0 q.0) ≡ true
    → is_below b (match_ordering o (p ∷ q ∷ qs) (q ∷ qs) (q ∷ with_pair p qs)) ≡ true
below-keep Less b p q qs h k = h
below-keep Equal b p q qs h k = k
below-keep Greater b p q qs h k = k

below-keeping : (b p : Pair) (qs : List Pair) → is_lt (name_cmp b.0 p.0) ≡ true → is_below b qs ≡ true → is_below b (with_pair p qs) ≡ true
below-keeping b p [] h k = h
below-keeping b p (q ∷ qs) h k = below-keep (name_cmp p.0 q.0) b p q qs h k

keep-ordered : (o : Ordering) (p q : Pair) (qs : List Pair) → name_cmp p.0 q.0 ≡ o → are_in_order (q ∷ qs) ≡ true → are_in_order (with_pair p qs) ≡ true
    → are_in_order (match_ordering o (p ∷ q ∷ qs) (q ∷ qs) (q ∷ with_pair p qs)) ≡ true
keep-ordered Less p q qs e h m = in-order-cons p (q ∷ qs) (ap is_lt e) h
keep-ordered Equal p q qs e h m = h
keep-ordered Greater p q qs e h m =
    let parts = in-order-parts q qs h in
    in-order-cons q (with_pair p qs) (below-keeping q p qs (turned p.0 q.0 e) parts.0) m

keep-order : (p : Pair) (qs : List Pair) → are_in_order qs ≡ true → are_in_order (with_pair p qs) ≡ true
keep-order p [] h = refl
keep-order p (q ∷ qs) h = keep-ordered (name_cmp p.0 q.0) p q qs refl h (keep-order p qs (in-order-parts q qs h).1)

pub keep-valid : (p : Pair) (qs : List Pair) → is_some p.1 ≡ true → are_texts qs ≡ true → are_texts (with_pair p qs) ≡ true
keep-valid p qs h k =
    let parts = and_parts (are_in_order qs) (list_all (λ r. is_some r.1) qs) k in
    and_from (are_in_order (with_pair p qs)) (list_all (λ r. is_some r.1) (with_pair p qs)) (keep-order p qs parts.0) (keep-texts p qs h parts.1)

-- ---- lists in order

all-true : {X : Type 0} (p : X → Bool) (xs : List X) → AllByRecursion (λ x. p x ≡ true) xs → list_all p xs ≡ true
all-true p [] h = refl
all-true p (x ∷ xs) h = and_from (p x) (list_all p xs) h.0 (all-true p xs h.1)

true-all : {X : Type 0} (p : X → Bool) (xs : List X) → list_all p xs ≡ true → AllByRecursion (λ x. p x ≡ true) xs
true-all p [] h = tt
true-all p (x ∷ xs) h = let parts = and_parts (p x) (list_all p xs) h in (parts.0, true-all p xs parts.1)

any-false : {X : Type 0} (p : X → Bool) (xs : List X) → list_any p xs ≡ false → AllByRecursion (λ x. p x ≡ false) xs
any-false p [] h = tt
any-false p (x ∷ xs) h = let parts = or_parts (p x) (list_any p xs) h in (parts.0, any-false p xs parts.1)

or-false : (a b : Bool) → a ≡ false → b ≡ false → (a || b) ≡ false
or-false true b h k = cc
or-false false b h k = k

false-any : {X : Type 0} (p : X → Bool) (xs : List X) → AllByRecursion (λ x. p x ≡ false) xs → list_any p xs ≡ false
false-any p [] h = refl
false-any p (x ∷ xs) h = or-false (p x) (list_any p xs) h.0 (false-any p xs h.1)

-- each is apart from those that follow
abbrev pub Apart : {X : Type 0} → (X → X → Bool) → List X → Type 0
Apart same [] = ⊤
Apart same (x ∷ xs) = AllByRecursion (λ y. same x y ≡ false) xs × Apart same xs

module _ {X : Type 0} (R : X → X → Ordering) (o : IsTotalOrder R) where
  test-sorted : (p : X → Bool) (xs : List X) → list_all p xs ≡ true → list_all p (sorted R xs) ≡ true
  test-sorted p xs h = all-true p (sorted R xs) (all-sorted R o (λ x. p x ≡ true) xs (true-all p xs h))

  none-sorted : (p : X → Bool) (xs : List X) → list_any p xs ≡ false → list_any p (sorted R xs) ≡ false
  none-sorted p xs h = false-any p (sorted R xs) (all-sorted R o (λ x. p x ≡ false) xs (any-false p xs h))

  module _ (same : X → X → Bool) (symm : (x y : X) → same x y ≡ same y x) where
    pub apart-from : (xs : List X) → are_apart same xs ≡ true → Apart same xs
    apart-from [] h = tt
    apart-from (x ∷ xs) h =
        let parts = and_parts (not (list_any (same x) xs)) (are_apart same xs) h in
        (any-false (same x) xs (not-true (list_any (same x) xs) parts.0), apart-from xs parts.1)

    all-at : (t : Bool) (P : X → Type 0) (x y : X) (ys : List X) → P x → AllByRecursion P (y ∷ ys) → AllByRecursion P (placed R x ys)
        → AllByRecursion P (cond t (y ∷ placed R x ys) (x ∷ y ∷ ys))
    all-at true P x y ys h all more = (all.0, more)
    all-at false P x y ys h all more = (h, all)

    all-put : (P : X → Type 0) (x : X) (ys : List X) → P x → AllByRecursion P ys → AllByRecursion P (placed R x ys)
    all-put P x [] h all = (h, tt)
    all-put P x (y ∷ ys) h all = all-at (is_lt (R y x)) P x y ys h all (all-put P x ys h all.1)

    apart-here : (t : Bool) (x y : X) (ys : List X) → AllByRecursion (λ z. same x z ≡ false) (y ∷ ys) → Apart same (y ∷ ys) → Apart same (placed R x ys)
        → Apart same (cond t (y ∷ placed R x ys) (x ∷ y ∷ ys))
    apart-here true x y ys h a more = (all-put (λ z. same y z ≡ false) x ys (symm y x ∙ h.0) a.0, more)
    apart-here false x y ys h a more = (h, a)

    apart-placed : (x : X) (ys : List X) → AllByRecursion (λ z. same x z ≡ false) ys → Apart same ys → Apart same (placed R x ys)
    apart-placed x [] h a = (tt, tt)
    apart-placed x (y ∷ ys) h a = apart-here (is_lt (R y x)) x y ys h a (apart-placed x ys h.1 a.1)

    pub apart-sorted : (xs : List X) → Apart same xs → Apart same (sorted R xs)
    apart-sorted [] a = tt
    apart-sorted (x ∷ xs) a = apart-placed x (sorted R xs) (all-sorted R o (λ z. same x z ≡ false) xs a.0) (apart-sorted xs a.1)

-- ---- actions of which none stands twice

new-both : (before xs ys : List Action) → are_new before xs ≡ true → are_new (before ++ xs) ys ≡ true → are_new before (xs ++ ys) ≡ true
new-both before [] ys h k = subst (λ (l : List Action). are_new l ys ≡ true) (append-nil before) k
new-both before (x ∷ xs) ys h k =
    let parts = and_parts (has_valid_fields x && not (is_some (double_of before x))) (are_new (before ++ x ∷ []) xs) h in
    and_from (has_valid_fields x && not (is_some (double_of before x))) (are_new (before ++ x ∷ []) (xs ++ ys)) parts.0
    (new-both (before ++ x ∷ []) xs ys parts.1 (subst (λ (l : List Action). are_new l ys ≡ true) (sym (append_assoc before (x ∷ []) xs)) k))

module _ {X : Type 0} (act : X → Action) (same : X → X → Bool) (finds : X → Action → Bool) (own : (x y : X) → finds y (act x) ≡ same x y)
    (asks : (before : List Action) (x : X) → list_any (finds x) before ≡ false → is_some (double_of before (act x)) ≡ false) where
  -- one more before them
  all-grown : (before : List Action) (x : X) (ys : List X) → AllByRecursion (λ y. same x y ≡ false) ys → AllByRecursion (λ y. list_any (finds y) before ≡ false) ys
      → AllByRecursion (λ y. list_any (finds y) (before ++ act x ∷ []) ≡ false) ys
  all-grown before x [] h k = tt
  all-grown before x (y ∷ ys) h k = (
    list_any-append (finds y) before (act x ∷ []) ∙ or-false (list_any (finds y) before) _ k.0 (or-false (finds y (act x)) false (own x y ∙ h.0) refl),
    all-grown before x ys h.1 k.1,
  )

  new-all : (before : List Action) (xs : List X) → list_all (λ x. has_valid_fields (act x)) xs ≡ true → AllByRecursion (λ x. list_any (finds x) before ≡ false) xs
      → Apart same xs → are_new before (map act xs) ≡ true
  new-all before [] v h a = refl
  new-all before (x ∷ xs) v h a =
      let valid = and_parts (has_valid_fields (act x)) (list_all (λ y. has_valid_fields (act y)) xs) v in
      and_from (has_valid_fields (act x) && not (is_some (double_of before (act x)))) (are_new (before ++ act x ∷ []) (map act xs))
      (and_from (has_valid_fields (act x)) (not (is_some (double_of before (act x)))) valid.0 (ap not (asks before x h.0)))
      (new-all (before ++ act x ∷ []) xs valid.1 (all-grown before x xs a.0 h.1) a.1)

-- ---- the parts of a write

pub symm-file : (f g : File) → same_file f g ≡ same_file g f
symm-file f g = (eq_by_cmp_equiv file_cmp_total).symm f g

symm-by : (a b : List ℕ) (t u : Bool) → bytes_eq a b ≡ t → bytes_eq b a ≡ u → t ≡ u
symm-by a b true true e f = refl
symm-by a b true false e f = let there : bytes_eq b a ≡ true = (bytes_eq-Decides b a).1 (sym ((bytes_eq-Decides a b).0 e)) in cc
symm-by a b false true e f = let there : bytes_eq a b ≡ true = (bytes_eq-Decides a b).1 (sym ((bytes_eq-Decides b a).0 f)) in cc
symm-by a b false false e f = refl

pub symm-bytes : (a b : List ℕ) → bytes_eq a b ≡ bytes_eq b a
symm-bytes a b = symm-by a b (bytes_eq a b) (bytes_eq b a) refl refl

all-weaker : {X : Type 0} (P Q : X → Type 0) → ((x : X) → P x → Q x) → (xs : List X) → AllByRecursion P xs → AllByRecursion Q xs
all-weaker P Q f [] h = tt
all-weaker P Q f (x ∷ xs) h = (f x h.0, all-weaker P Q f xs h.1)

all-holds : {X : Type 0} (P : X → Type 0) → ((x : X) → P x) → (xs : List X) → AllByRecursion P xs
all-holds P f [] = tt
all-holds P f (x ∷ xs) = (f x, all-holds P f xs)

none-mapped : {X : Type 0} (p : Action → Bool) (act : X → Action) → ((x : X) → p (act x) ≡ false) → (xs : List X) → list_any p (map act xs) ≡ false
none-mapped p act h [] = refl
none-mapped p act h (x ∷ xs) = or-false (p (act x)) (list_any p (map act xs)) (h x) (none-mapped p act h xs)

-- what neither a commitInfo nor a change passes
record PassesNone (p : Action → Bool) : Type 0 where
  info : (i : Info) → p (action.Info i) ≡ false
  protocol : (q : _) → p (action.Protocol q) ≡ false
  meta : (m : Meta) → p (action.Meta m) ≡ false

module _ (p : Action → Bool) (none : PassesNone p) where
  none-protocols : (features : Option (List (List ℕ))) → list_any p (protocols_of features) ≡ false
  none-protocols None = refl
  none-protocols (Some features) = or-false (p (action.Protocol _)) false (none.protocol _) refl

  none-metas : (b : Bool) (change : Change) (old : Option Meta) → list_any p (if b then metas_from change old else []) ≡ false
  none-metas true change None = refl
  none-metas true change (Some m) = or-false (p (action.Meta _)) false (none.meta _) refl
  none-metas false change old = refl

  none-changes : (change : Option Change) (old : Option Meta) → list_any p (changes_of change old) ≡ false
  none-changes None old = refl
  none-changes (Some change) old =
      list_any-append p (protocols_of change.features) (metas_of change old)
      ∙ or-false (list_any p (protocols_of change.features)) (list_any p (metas_of change old)) (none-protocols change.features) (none-metas _ change old)

  none-front : (i : Info) (change : Option Change) (old : Option Meta) → list_any p (action.Info i ∷ changes_of change old) ≡ false
  none-front i change old = or-false (p (action.Info i)) (list_any p (changes_of change old)) (none.info i) (none-changes change old)

  none-numbered : (i : Info) (change : Option Change) (old : Option Meta) (t : Txn) → p (action.Txn t) ≡ false
      → list_any p ((action.Info i ∷ changes_of change old) ++ action.Txn t ∷ []) ≡ false
  none-numbered i change old t h =
      list_any-append p (action.Info i ∷ changes_of change old) (action.Txn t ∷ [])
      ∙ or-false (list_any p (action.Info i ∷ changes_of change old)) _ (none-front i change old) (or-false (p (action.Txn t)) false h refl)

changed-valid : (change : Change) (old : Meta) → are_texts (given_pairs change.configuration) ≡ true → is_valid_meta old ≡ true → is_valid_meta (changed_meta change old) ≡ true
changed-valid change old h k =
    let parts = and_parts (are_texts old.configuration) (are_texts old.format.options) k in
    let texts = (and_parts (are_in_order (given_pairs change.configuration)) (list_all (λ r. is_some r.1) (given_pairs change.configuration)) h).1 in
    and_from (are_texts (put_pairs (given_pairs change.configuration) old.configuration)) (are_texts old.format.options)
    (putting-valid (given_pairs change.configuration) old.configuration texts parts.0) parts.1

new-meta : (before : List Action) (b : Bool) (change : Change) (old : Option Meta) → list_any is_meta before ≡ false → are_texts (given_pairs change.configuration) ≡ true
    → has_valid_meta old ≡ true → are_new before (if b then metas_from change old else []) ≡ true
unfolding has_valid_fields double_of
new-meta before true change None e h k = refl
new-meta before true change (Some m) e h k =
    ap₂ (λ (v w : Bool). (v && not (is_some (if_some w []))) && true) (changed-valid change m h k) e
new-meta before false change old e h k = refl

new-some : (i : Info) (change : Change) (features : Option (List (List ℕ))) (old : Option Meta) → are_texts (given_pairs change.configuration) ≡ true → has_valid_meta old ≡ true
    → are_new (action.Info i ∷ []) (protocols_of features ++ metas_of change old) ≡ true
unfolding has_valid_fields double_of
new-some i change None old h k = new-meta (action.Info i ∷ []) _ change old refl h k
new-some i change (Some features) old h k = new-meta (action.Info i ∷ action.Protocol _ ∷ []) _ change old refl h k

new-changes : (i : Info) (change : Option Change) (old : Option Meta) → are_texts (properties_of change) ≡ true → has_valid_meta old ≡ true
    → are_new (action.Info i ∷ []) (changes_of change old) ≡ true
new-changes i None old h k = refl
new-changes i (Some change) old h k = new-some i change change.features old h k

-- ---- the contents

domain-asks : (before : List Action) (d : Domain) → list_any (is_of_domain d.domain) before ≡ false → is_some (double_of before (action.Domain d)) ≡ false
unfolding double_of
domain-asks before d h = ap (λ b. is_some (if_some b d.domain)) h

remove-asks : (time : ℤ) (before : List Action) (r : Remove) → list_any (mentions (file_of_remove r)) before ≡ false → is_some (double_of before (action.Remove (with_time time r))) ≡ false
unfolding double_of
remove-asks time before r h = ap (λ b. is_some (if_some b r.path)) h

add-asks : (before : List Action) (a : Add) → list_any (mentions (file_of_add a)) before ≡ false → is_some (double_of before (action.Add a)) ≡ false
unfolding double_of
add-asks before a h = ap (λ b. is_some (if_some b a.path)) h

timed-valid : (time : ℤ) (rs : List Remove) → list_all (λ r. has_valid_fields (action.Remove r)) rs ≡ true → list_all (λ r. has_valid_fields (action.Remove (with_time time r))) rs ≡ true
unfolding has_valid_fields
timed-valid time rs h = h

removes-mention : (time : ℤ) (f : File) (rs : List Remove) → list_any (mentions f) (map (λ r. action.Remove (with_time time r)) rs) ≡ list_any (λ r. same_file (file_of_remove r) f) rs
removes-mention time f [] = refl
removes-mention time f (r ∷ rs) = ap (λ b. same_file (file_of_remove r) f || b) (removes-mention time f rs)

joined : (p : Action → Bool) (xs ys : List Action) → list_any p xs ≡ false → list_any p ys ≡ false → list_any p (xs ++ ys) ≡ false
joined p xs ys h k = list_any-append p xs ys ∙ or-false (list_any p xs) (list_any p ys) h k

mentions-none : (f : File) → PassesNone (mentions f)
mentions-none f = record { info = λ i. refl; protocol = λ q. refl; meta = λ m. refl }

domain-none : (name : List ℕ) → PassesNone (is_of_domain name)
domain-none name = record { info = λ i. refl; protocol = λ q. refl; meta = λ m. refl }

app-none : (app : List ℕ) → PassesNone (is_of_app app)
app-none app = record { info = λ i. refl; protocol = λ q. refl; meta = λ m. refl }

module _ (i : Info) (old : Option Meta) (intent : Intent) (t : Txn) (time : ℤ) (request : IsWriteRequest intent) where
  numbered : List Action
  numbered = (action.Info i ∷ changes_of intent.change old) ++ action.Txn t ∷ []

  domains : List Action
  domains = map action.Domain (sorted domains_cmp intent.domains)

  removes : List Action
  removes = map (λ r. action.Remove (with_time time r)) (sorted removes_cmp intent.removes)

  adds : List Action
  adds = map action.Add (sorted adds_cmp intent.adds)

  new-domains : are_new numbered domains ≡ true
  unfolding numbered domains
  new-domains =
      new-all action.Domain same_domain (λ d. is_of_domain d.domain) (λ x y. refl) domain-asks numbered (sorted domains_cmp intent.domains)
      (test-sorted domains_cmp domains_total (λ d. has_valid_fields (action.Domain d)) intent.domains request.valid_domains)
      (all-holds (λ d. list_any (is_of_domain d.domain) numbered ≡ false) (λ d. none-numbered (is_of_domain d.domain) (domain-none d.domain) i intent.change old t refl) (sorted domains_cmp intent.domains))
      (apart-sorted domains_cmp domains_total same_domain (λ x y. symm-bytes x.domain y.domain) intent.domains
      (apart-from domains_cmp domains_total same_domain (λ x y. symm-bytes x.domain y.domain) intent.domains request.own_domains))

  before-removes : (f : File) → list_any (mentions f) (numbered ++ domains) ≡ false
  unfolding numbered domains
  before-removes f =
      joined (mentions f) numbered domains (none-numbered (mentions f) (mentions-none f) i intent.change old t refl)
      (none-mapped (mentions f) action.Domain (λ d. refl) (sorted domains_cmp intent.domains))

  new-removes : are_new (numbered ++ domains) removes ≡ true
  unfolding removes
  new-removes =
      new-all (λ r. action.Remove (with_time time r)) same_remove (λ r. mentions (file_of_remove r)) (λ x y. refl) (remove-asks time) (numbered ++ domains) (sorted removes_cmp intent.removes)
      (timed-valid time (sorted removes_cmp intent.removes) (test-sorted removes_cmp removes_total (λ r. has_valid_fields (action.Remove r)) intent.removes request.valid_removes))
      (all-holds (λ r. list_any (mentions (file_of_remove r)) (numbered ++ domains) ≡ false) (λ r. before-removes (file_of_remove r)) (sorted removes_cmp intent.removes))
      (apart-sorted removes_cmp removes_total same_remove (λ x y. symm-file (file_of_remove x) (file_of_remove y)) intent.removes
      (apart-from removes_cmp removes_total same_remove (λ x y. symm-file (file_of_remove x) (file_of_remove y)) intent.removes request.own_removes))

  before-adds : (a : Add) → not (removes_have intent.removes a) ≡ true → list_any (mentions (file_of_add a)) ((numbered ++ domains) ++ removes) ≡ false
  unfolding removes
  before-adds a h =
      let f = file_of_add a in
      joined (mentions f) (numbered ++ domains) removes (before-removes f)
      (removes-mention time f (sorted removes_cmp intent.removes)
      ∙ none-sorted removes_cmp removes_total (λ r. same_file (file_of_remove r) f) intent.removes (not-true (removes_have intent.removes a) h))

  new-adds : are_new ((numbered ++ domains) ++ removes) adds ≡ true
  unfolding adds
  new-adds =
      new-all action.Add same_add (λ a. mentions (file_of_add a)) (λ x y. refl) add-asks ((numbered ++ domains) ++ removes) (sorted adds_cmp intent.adds)
      (test-sorted adds_cmp adds_total (λ a. has_valid_fields (action.Add a)) intent.adds request.valid_adds)
      (all-weaker (λ a. not (removes_have intent.removes a) ≡ true) (λ a. list_any (mentions (file_of_add a)) ((numbered ++ domains) ++ removes) ≡ false) before-adds (sorted adds_cmp intent.adds)
      (all-sorted adds_cmp adds_total (λ a. not (removes_have intent.removes a) ≡ true) intent.adds
      (true-all (λ a. not (removes_have intent.removes a)) intent.adds request.not_removed)))
      (apart-sorted adds_cmp adds_total same_add (λ x y. symm-file (file_of_add x) (file_of_add y)) intent.adds
      (apart-from adds_cmp adds_total same_add (λ x y. symm-file (file_of_add x) (file_of_add y)) intent.adds request.own_adds))

  new-contents : are_new numbered (contents_of intent time) ≡ true
  unfolding domains removes adds
  new-contents =
      new-both numbered domains (removes ++ adds) new-domains
      (new-both (numbered ++ domains) removes adds new-removes new-adds)

  new-txn : are_new (action.Info i ∷ changes_of intent.change old) (action.Txn t ∷ contents_of intent time) ≡ true
  unfolding numbered has_valid_fields double_of
  new-txn =
      ap₂ (λ (b c : Bool). not (is_some (if_some b t.app)) && c)
      (none-front (is_of_app t.app) (app-none t.app) i intent.change old) new-contents

pub write-commit : (old : Option Meta) (intent : Intent) (id : ℕ) (time : ℤ) → pos 0 ≤ℤ time → IsReadable old intent → IsCommit (composed_write old intent id time)
unfolding composed_write has_valid_fields double_of
write-commit old intent id time h readable = record {
  begins = refl;
  new = and_from (is_from_zero time && true) _ (and_from (is_from_zero time) true (from_zero time h) refl)
      (new-both (action.Info (info_for id time) ∷ []) (changes_of intent.change old) (action.Txn (txn_for intent) ∷ contents_of intent time)
      (new-changes (info_for id time) intent.change old readable.request.properties readable.meta)
      (new-txn (info_for id time) old intent (txn_for intent) time readable.request));
}

-- ---- a create

pub create-commit : (create : Create) (id : ℕ) (now : ℤ) → pos 0 ≤ℤ now → are_texts create.configuration ≡ true → IsCommit (composed_create create id now)
unfolding composed_create
create-commit create id now h texts =
    three (info_for id now) (protocol_for create.features) (meta_for create now) (from_zero now h)
    (and_from (are_texts (meta_for create now).configuration) true (keep-valid (timestamps_property, Some (codes "true")) create.configuration refl texts) refl)
