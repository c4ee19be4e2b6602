-- Names and pairs stand once, in byte order; a pair that is put in is found, and those of other names stay.
use Rattle.std.proofs.Common.{Bool, true, false, cond, ◌||◌, ◌≡◌, ℕ, List, [], ◌∷◌, map, codes, Option, Some, None, Ordering, Less, Equal, Greater, bytes_eq, refl, sym, ap, ◌∙◌, subst}
use Rattle.std.specs.List.{AllByRecursion}
use Rattle.std.specs.List.Sorted.{IsStrictlySortedBy}
use Rattle.std.specs.Ordering.{match_ordering, ordering_reverse}
use Rattle.std.proofs.lemmas.Cmp.{nat_list_cmp_total, tied_itself}
use Rattle.std.proofs.lemmas.Slice.Eq.{bytes_eq-Decides}
use Rattle.action_fields.specs.Types.{Pair}
use Rattle.reconcile.specs.Keys.{name_cmp}
use Rattle.reconcile.specs.Replay.{or_else}
use Rattle.reconcile.proofs.Named.{exact_names}
use Rattle.table_rules.specs.Texts.{names_have}
use Rattle.staged_commit.specs.Names.{AreInOrder, HasEachOnce, HasPut, in_order, last_value_of, value_of, with_name}
use Rattle.staged_commit.specs.Composed.{asked_features, features_for}
use Rattle.staged_commit.specs.Changes.{put_pair, put_pairs}

-- ---- names in order

all-weaker : (P Q : List ℕ → Type 0) → ((x : List ℕ) → P x → Q x) → (xs : List (List ℕ)) → AllByRecursion P xs → AllByRecursion Q xs
all-weaker P Q f [] h = tt
all-weaker P Q f (x ∷ xs) h = (f x h.0, all-weaker P Q f xs h.1)

all-here : (P : List ℕ → Type 0) (o : Ordering) (n m : List ℕ) (ms : List (List ℕ)) → P n → P m → AllByRecursion P ms → AllByRecursion P (with_name n ms)
    → AllByRecursion P (match_ordering o (n ∷ m ∷ ms) (m ∷ ms) (m ∷ with_name n ms))
all-here P Less n m ms p q h k = (p, (q, h))
all-here P Equal n m ms p q h k = (q, h)
all-here P Greater n m ms p q h k = (q, k)

all-with : (P : List ℕ → Type 0) (n : List ℕ) (ns : List (List ℕ)) → P n → AllByRecursion P ns → AllByRecursion P (with_name n ns)
all-with P n [] p h = (p, tt)
all-with P n (m ∷ ms) p h = all-here P (name_cmp n m) n m ms p h.0 h.1 (all-with P n ms p h.1)

rising-here : (o : Ordering) (n m : List ℕ) (ms : List (List ℕ)) → name_cmp n m ≡ o → IsStrictlySortedBy name_cmp (m ∷ ms) → IsStrictlySortedBy name_cmp (with_name n ms)
    → IsStrictlySortedBy name_cmp (match_ordering o (n ∷ m ∷ ms) (m ∷ ms) (m ∷ with_name n ms))
unfolding IsStrictlySortedBy
rising-here Less n m ms e h k =
    ((e, all-weaker (λ y. name_cmp m y ≡ Less) (λ y. name_cmp n y ≡ Less) (λ y l. nat_list_cmp_total.trans n m y e l) ms h.0), h)
rising-here Equal n m ms e h k = h
rising-here Greater n m ms e h k =
    (all-with (λ y. name_cmp m y ≡ Less) n ms (nat_list_cmp_total.antisymm m n ∙ ap ordering_reverse e) h.0, k)

rising-with : (n : List ℕ) (ns : List (List ℕ)) → IsStrictlySortedBy name_cmp ns → IsStrictlySortedBy name_cmp (with_name n ns)
unfolding IsStrictlySortedBy
rising-with n [] h = (tt, tt)
rising-with n (m ∷ ms) h = rising-here (name_cmp n m) n m ms refl h (rising-with n ms h.1)

rising-in-order : (ns : List (List ℕ)) → IsStrictlySortedBy name_cmp (in_order ns)
unfolding IsStrictlySortedBy
rising-in-order [] = tt
rising-in-order (n ∷ ns) = rising-with n (in_order ns) (rising-in-order ns)

-- ---- which names there are

or-twice : (b c r : Bool) → b ≡ c → (c || r) ≡ (b || (c || r))
or-twice true true r h = refl
or-twice true false r h = cc
or-twice false c r h = refl

or-swap : (a b c : Bool) → (b || (a || c)) ≡ (a || (b || c))
or-swap true true c = refl
or-swap true false c = refl
or-swap false true c = refl
or-swap false false c = refl

has-here : (o : Ordering) (k n m : List ℕ) (ms : List (List ℕ)) → name_cmp n m ≡ o → names_have (with_name n ms) k ≡ (bytes_eq n k || names_have ms k)
    → names_have (match_ordering o (n ∷ m ∷ ms) (m ∷ ms) (m ∷ with_name n ms)) k ≡ (bytes_eq n k || (bytes_eq m k || names_have ms k))
has-here Less k n m ms e h = refl
has-here Equal k n m ms e h = or-twice (bytes_eq n k) (bytes_eq m k) (names_have ms k) (ap (λ x. bytes_eq x k) (exact_names n m e))
has-here Greater k n m ms e h = ap (λ b. bytes_eq m k || b) h ∙ or-swap (bytes_eq n k) (bytes_eq m k) (names_have ms k)

has-with : (k n : List ℕ) (ns : List (List ℕ)) → names_have (with_name n ns) k ≡ (bytes_eq n k || names_have ns k)
has-with k n [] = refl
has-with k n (m ∷ ms) = has-here (name_cmp n m) k n m ms refl (has-with k n ms)

has-in-order : (k : List ℕ) (ns : List (List ℕ)) → names_have (in_order ns) k ≡ names_have ns k
has-in-order k [] = refl
has-in-order k (n ∷ ns) = has-with k n (in_order ns) ∙ ap (λ b. bytes_eq n k || b) (has-in-order k ns)

has-two : (k n m : List ℕ) (ns : List (List ℕ)) → names_have (with_name n (with_name m (in_order ns))) k ≡ names_have (n ∷ m ∷ ns) k
has-two k n m ns =
    has-with k n (with_name m (in_order ns)) ∙ ap (λ b. bytes_eq n k || b) (has-with k m (in_order ns) ∙ ap (λ b. bytes_eq m k || b) (has-in-order k ns))

pub features-once : (asked : Option (List (List ℕ)))
    → HasEachOnce (codes "catalogManaged" ∷ codes "inCommitTimestamp" ∷ asked_features asked) (features_for asked)
features-once asked = record {
  rising = rising-with (codes "catalogManaged") (with_name (codes "inCommitTimestamp") (in_order (asked_features asked)))
      (rising-with (codes "inCommitTimestamp") (in_order (asked_features asked)) (rising-in-order (asked_features asked)));
  same = λ k. has-two k (codes "catalogManaged") (codes "inCommitTimestamp") (asked_features asked);
}

-- ---- pairs

abbrev Value : Type 0
Value = Option (Option (List ℕ))

abbrev one : Bool → Option (List ℕ) → Value
one b v = cond b (Some v) None

found : (b : Bool) (v : Option (List ℕ)) (r : Value) → cond b (Some v) r ≡ or_else (one b v) r
found true v r = refl
found false v r = refl

over : (b c : Bool) (v w : Option (List ℕ)) (r : Value) → b ≡ c → or_else (one b v) r ≡ or_else (one b v) (cond c (Some w) r)
over true c v w r h = refl
over false true v w r h = cc
over false false v w r h = refl

later : (b c : Bool) (v w : Option (List ℕ)) (r s : Value) → (b ≡ true → c ≡ true → ⊥) → s ≡ or_else (one b v) r → cond c (Some w) s ≡ or_else (one b v) (cond c (Some w) r)
later true true v w r s d h = absurd (d refl refl)
later true false v w r s d h = h
later false true v w r s d h = refl
later false false v w r s d h = h

apart : (n p q : List ℕ) → name_cmp p q ≡ Greater → bytes_eq p n ≡ true → bytes_eq q n ≡ true → ⊥
apart n p q e a b =
    let there : p ≡ q = (bytes_eq-Decides p n).0 a ∙ sym ((bytes_eq-Decides q n).0 b) in
    let same : name_cmp p q ≡ Equal = ap (λ x. name_cmp x q) there ∙ tied_itself nat_list_cmp_total q in cc

value-here : (o : Ordering) (n : List ℕ) (p q : Pair) (qs : List Pair) → name_cmp p.0 q.0 ≡ o
    → value_of n (put_pair p qs) ≡ or_else (one (bytes_eq p.0 n) p.1) (value_of n qs)
    → value_of n (match_ordering o (p ∷ q ∷ qs) (p ∷ qs) (q ∷ put_pair p qs)) ≡ or_else (one (bytes_eq p.0 n) p.1) (value_of n (q ∷ qs))
value-here Less n p q qs e h = found (bytes_eq p.0 n) p.1 (value_of n (q ∷ qs))
value-here Equal n p q qs e h =
    found (bytes_eq p.0 n) p.1 (value_of n qs)
    ∙ over (bytes_eq p.0 n) (bytes_eq q.0 n) p.1 q.1 (value_of n qs) (ap (λ x. bytes_eq x n) (exact_names p.0 q.0 e))
value-here Greater n p q qs e h =
    later (bytes_eq p.0 n) (bytes_eq q.0 n) p.1 q.1 (value_of n qs) (value_of n (put_pair p qs)) (apart n p.0 q.0 e) h

value-put : (n : List ℕ) (p : Pair) (qs : List Pair) → value_of n (put_pair p qs) ≡ or_else (value_of n (p ∷ [])) (value_of n qs)
value-put n p [] = found (bytes_eq p.0 n) p.1 None
value-put n p (q ∷ qs) = value-here (name_cmp p.0 q.0) n p q qs refl (value-put n p qs)

or-apart : (a b c : Value) → or_else (or_else a b) c ≡ or_else a (or_else b c)
or-apart None b c = refl
or-apart (Some a) b c = refl

value-puts : (n : List ℕ) (given old : List Pair) → value_of n (put_pairs given old) ≡ or_else (last_value_of n given) (value_of n old)
value-puts n [] old = refl
value-puts n (p ∷ ps) old =
    value-puts n ps (put_pair p old) ∙ ap (λ v. or_else (last_value_of n ps) v) (value-put n p old)
    ∙ sym (or-apart (last_value_of n ps) (value_of n (p ∷ [])) (value_of n old))

names-here : (o : Ordering) (p q : Pair) (qs : List Pair) → name_cmp p.0 q.0 ≡ o
    → map (λ (x : Pair). x.0) (put_pair p qs) ≡ with_name p.0 (map (λ (x : Pair). x.0) qs)
    → map (λ (x : Pair). x.0) (match_ordering o (p ∷ q ∷ qs) (p ∷ qs) (q ∷ put_pair p qs))
    ≡ match_ordering o (p.0 ∷ q.0 ∷ map (λ (x : Pair). x.0) qs) (q.0 ∷ map (λ (x : Pair). x.0) qs) (q.0 ∷ with_name p.0 (map (λ (x : Pair). x.0) qs))
names-here Less p q qs e h = refl
names-here Equal p q qs e h = ap (λ n. n ∷ map (λ (x : Pair). x.0) qs) (exact_names p.0 q.0 e)
names-here Greater p q qs e h = ap (λ ns. q.0 ∷ ns) h

names-put : (p : Pair) (qs : List Pair) → map (λ (x : Pair). x.0) (put_pair p qs) ≡ with_name p.0 (map (λ (x : Pair). x.0) qs)
names-put p [] = refl
names-put p (q ∷ qs) = names-here (name_cmp p.0 q.0) p q qs refl (names-put p qs)

order-put : (p : Pair) (qs : List Pair) → AreInOrder qs → AreInOrder (put_pair p qs)
order-put p qs h = subst (λ (ns : List (List ℕ)). IsStrictlySortedBy name_cmp ns) (sym (names-put p qs)) (rising-with p.0 (map (λ (x : Pair). x.0) qs) h)

order-puts : (given old : List Pair) → AreInOrder old → AreInOrder (put_pairs given old)
order-puts [] old h = h
order-puts (p ∷ ps) old h = order-puts ps (put_pair p old) (order-put p old h)

pub has-put : (given old : List Pair) → HasPut given old (put_pairs given old)
has-put given old = record { values = λ n. value-puts n given old; order = order-puts given old }
