-- Maps laid over others, and keys taken away.
use Rattle.std.proofs.Common.{◌≡◌, ℕ, ◌-◌, ◌<◌, Bool, true, false, ◌&&◌, cond, List, [], ◌∷◌, arith, refl, ap, sym, subst, ◌∙◌, string_bytes}
use Rattle.std.specs.Prelude.{Option, Some, None, is_some, option_and_then}
use Rattle.std.specs.Option.{option_or}
use Rattle.std.specs.declared.string.String.{String}
use Rattle.std.specs.declared.alloc.Global.{Global}
use Rattle.std.specs.declared.cmp.Ordering.{Ordering}
use Rattle.std.specs.declared.cmp.Ordering.TheVariants.{Less, Equal, Greater}
use Rattle.std.specs.Ordering.{eq_by_cmp, is_eq, is_lt}
use Rattle.std.specs.Cmp.{eq_by_cmp_equiv}
use Rattle.std.specs.BTreeMap.{BTreeMap, is_at, IsOrdered, InsertsAll}
use Rattle.std.specs.Map.{lookup, keys_of}
use Rattle.std.specs.String.{string_cmp, string_cmp_total}
use Rattle.std.proofs.lemmas.Map.Keys.{IsDistinct-from_sorted}
use Rattle.std.proofs.lemmas.Map.Made.{update_all_distinct}
use Rattle.std.proofs.lemmas.Map.Text.{text_cmp}
use Rattle.std.specs.FinMap.Entries.{below_all}
use lib.Dec.{T}
use Rattle.std.specs.Cmp.Lexicographic.{nat_list_cmp_total}
use Rattle.std.specs.FinMap as fin
use Rattle.action_types.specs.Files.{name_cmp}
use Rattle.reconcile.specs.ByFile.{plain_file, marked_file, Marked, look, or_empty, PutsBack, by_file}
use Rattle.reconcile.specs.Laying.{LaysOver, Strikes, LaysMarked, LaysIds, StrikesMarked, StrikesIds}
use Rattle.reconcile.specs.Replay.{or_else}
use Rattle.reconcile.proofs.InOrder.{equal}
use Rattle.reconcile.specs.Named.{by_bytes}
use Rattle.reconcile.proofs.Named.{exact_names, get-by_bytes}
use Rattle.reconcile.proofs.InFileOrder.{get-by_file}
use Rattle.reconcile.proofs.ByFile.{get-or_empty, tied}

first : (a b : Bool) → T (a && b) → T a
first true b p = tt
first false b p = p

second : (a b : Bool) → T (a && b) → T b
second true b p = p
second false b p = absurd p

less : (o : Ordering) → T (is_lt o) → o ≡ Less
less Less p = refl
less Equal p = absurd p
less Greater p = absurd p

module _ {W : Type 0} where
  find_below : (q : List ℕ) (es : List (List ℕ × W)) → T (below_all name_cmp q es) → fin.find name_cmp q es ≡ None
  find_below q [] h = refl
  find_below q (e ∷ es) h =
      ap (λ o. cond (is_eq o) (Some e.1) (fin.find name_cmp q es)) (less (name_cmp q e.0) (first (is_lt (name_cmp q e.0)) (below_all name_cmp q es) h))
      ∙ find_below q es (second (is_lt (name_cmp q e.0)) (below_all name_cmp q es) h)

  pub no_more : (q : List ℕ) (w : W) (es : List (List ℕ × W)) → T (fin.is_sorted name_cmp ((q, w) ∷ es)) → fin.find name_cmp q es ≡ None
  no_more q w es h = find_below q es (first (below_all name_cmp q es) (fin.is_sorted name_cmp es) h)

  pub sorted_rest : (q : List ℕ) (w : W) (es : List (List ℕ × W)) → T (fin.is_sorted name_cmp ((q, w) ∷ es)) → T (fin.is_sorted name_cmp es)
  sorted_rest q w es h = second (below_all name_cmp q es) (fin.is_sorted name_cmp es) h

module _ {V : Type 0} where
  -- ---- one entry less

  nonempty : (m : fin.FinMap name_cmp V) (k : List ℕ) (v : V) → fin.get m k ≡ Some v → fin.len m ≡ 0 → ⊥
  nonempty m k v e z = let n : None ≡ Some v = sym (ap (λ m. fin.get m k) (fin.empty_of_len m z) ∙ fin.get-empty name_cmp k) ∙ e in cc

  shorter : (m : fin.FinMap name_cmp V) (k : List ℕ) (v : V) → fin.get m k ≡ Some v → fin.len (fin.remove m k) < fin.len m
  shorter m k v e =
      let here : fin.len (fin.remove m k) ≡ fin.len m - 1 = fin.len-remove nat_list_cmp_total m k ∙ ap (λ o. cond (is_some o) (fin.len m - 1) (fin.len m)) e in
      let some : fin.len m ≡ 0 → ⊥ = nonempty m k v e in
      omega arith

  pub popped : (m n : fin.FinMap name_cmp V) (k : List ℕ) (v : V) → fin.get m k ≡ Some v → n ≡ fin.remove m k → fin.len n < fin.len m
  popped m n k v e rest = subst (λ x. fin.len x < fin.len m) (sym rest) (shorter m k v e)

  -- ---- a tree appended to another

  key_or_none : (bs : List ℕ) (es : List (String Global × V)) (P : Type 0) → ((k : String Global) → string_bytes k ≡ bs → P) → (lookup (is_at (text_cmp bs)) es ≡ None → P) → P
  key_or_none bs [] P f g = g refl
  key_or_none bs (e ∷ es) P f g = inside (is_at (text_cmp bs) e.0) refl (key_or_none bs es P f)
    where
      inside : (b : Bool) → is_at (text_cmp bs) e.0 ≡ b → ((lookup (is_at (text_cmp bs)) es ≡ None → P) → P) → P
      inside true t more = f e.0 (sym (exact_names bs (string_bytes e.0) (equal (text_cmp bs e.0) t)))
      inside false t more = more (λ n. g (ap (λ b. cond b (Some e.1) (lookup (is_at (text_cmp bs)) es)) t ∙ n))

  as_or_else : (a b : Option V) → option_or a b ≡ or_else a b
  as_or_else None b = refl
  as_or_else (Some a) b = refl

  abbrev at_text : List ℕ → List (String Global × V) → Option V
  at_text bs es = lookup (is_at (text_cmp bs)) es

  abbrev IsAppendedAt : BTreeMap (String Global) V → BTreeMap (String Global) V → BTreeMap (String Global) V → List ℕ → Type 0
  IsAppendedAt m o n bs = at_text bs n.entries ≡ or_else (at_text bs o.entries) (at_text bs m.entries)

  appended_key : (m o n : BTreeMap (String Global) V) → IsOrdered string_cmp o → InsertsAll string_cmp m o.entries n
      → (bs : List ℕ) (k : String Global) → string_bytes k ≡ bs → IsAppendedAt m o n bs
  appended_key m o n ordered all bs k e = subst (IsAppendedAt m o n) e
      (all.0 k
      ∙ update_all_distinct (eq_by_cmp_equiv string_cmp_total) (eq_by_cmp string_cmp) (λ x y. refl) (λ q. lookup (is_at (string_cmp q)) m.entries) o.entries k
      (IsDistinct-from_sorted string_cmp (keys_of o.entries) ordered)
      ∙ as_or_else (lookup (is_at (string_cmp k)) o.entries) (lookup (is_at (string_cmp k)) m.entries))

  appended_none : (m o n : BTreeMap (String Global) V) (bs : List ℕ) → at_text bs n.entries ≡ None → at_text bs o.entries ≡ None → at_text bs m.entries ≡ None → IsAppendedAt m o n bs
  appended_none m o n bs x y z = x ∙ sym (λ i. or_else (y i) (z i))

  appended_at : (m o n : BTreeMap (String Global) V) → IsOrdered string_cmp o → InsertsAll string_cmp m o.entries n → (bs : List ℕ) → IsAppendedAt m o n bs
  appended_at m o n ordered all bs =
      let at = appended_key m o n ordered all bs in
      key_or_none bs n.entries (IsAppendedAt m o n bs) at
      (λ x. key_or_none bs o.entries (IsAppendedAt m o n bs) at
      (λ y. key_or_none bs m.entries (IsAppendedAt m o n bs) at
      (λ z. appended_none m o n bs x y z)))

  pub appended : (m o n : BTreeMap (String Global) V) → IsOrdered string_cmp o → InsertsAll string_cmp m o.entries n → LaysOver (by_bytes m) (by_bytes o) (by_bytes n)
  appended m o n ordered all q =
      get-by_bytes n q ∙ appended_at m o n ordered all q ∙ (λ i. or_else (sym (get-by_bytes o q) i) (sym (get-by_bytes m q) i))

module _ {V : Type 0} where
  -- ---- one path taken out, changed and put back

  at_path : (old taken : Marked V) (path : List ℕ) → taken ≡ fin.remove old path → (q : List ℕ) → fin.get taken q ≡ cond (eq_by_cmp name_cmp q path) None (fin.get old q)
  at_path old taken path e q = ap (λ m. fin.get m q) e ∙ fin.get-remove nat_list_cmp_total old path q

  taken_none : (old taken : Marked V) (path : List ℕ) → taken ≡ fin.remove old path → fin.get taken path ≡ None
  taken_none old taken path e = at_path old taken path e path ∙ ap (λ b. cond b None (fin.get old path)) (tied path)

  -- what is found at an id, after the values of one path were changed
  pub put_at : (old taken new : Marked V) (path : List ℕ) (found files : fin.FinMap name_cmp V)
      → found ≡ or_empty (fin.get old path) → taken ≡ fin.remove old path → PutsBack taken new path files
      → (q i : List ℕ) → look new q i ≡ cond (eq_by_cmp name_cmp q path) (fin.get files i) (look old q i)
  put_at old taken new path found files f t back q i = back (taken_none old taken path t) q i ∙ inside (eq_by_cmp name_cmp q path) refl
    where
      inside : (b : Bool) → eq_by_cmp name_cmp q path ≡ b → cond b (fin.get files i) (look taken q i) ≡ cond b (fin.get files i) (look old q i)
      inside true e = refl
      inside false e = ap (option_and_then (λ n. fin.get n i)) (at_path old taken path t q ∙ ap (λ b. cond b None (fin.get old q)) e)

  pub found_at : (old : Marked V) (path : List ℕ) (found : fin.FinMap name_cmp V) → found ≡ or_empty (fin.get old path) → (i : List ℕ) → fin.get found i ≡ look old path i
  found_at old path found f i = ap (λ n. fin.get n i) f ∙ get-or_empty (fin.get old path) i

  pub same_path : (m : Marked V) (q path : List ℕ) → eq_by_cmp name_cmp q path ≡ true → (i : List ℕ) → look m path i ≡ look m q i
  same_path m q path e i = ap (λ p. look m p i) (sym (exact_names q path (equal (name_cmp q path) e)))

  pub lays_ids : (old taken new : Marked V) (path : List ℕ) (found newer files : fin.FinMap name_cmp V)
      → found ≡ or_empty (fin.get old path) → taken ≡ fin.remove old path → LaysOver found newer files → PutsBack taken new path files
      → LaysIds old path newer new
  lays_ids old taken new path found newer files f t laid back q i =
      put_at old taken new path found files f t back q i ∙ inside (eq_by_cmp name_cmp q path) refl
    where
      inside : (b : Bool) → eq_by_cmp name_cmp q path ≡ b → cond b (fin.get files i) (look old q i) ≡ or_else (cond b (fin.get newer i) None) (look old q i)
      inside true e = laid i ∙ ap (or_else (fin.get newer i)) (found_at old path found f i ∙ same_path old q path e i)
      inside false e = refl

  pub strikes_ids : {W : Type 0} (old taken new : Marked V) (path : List ℕ) (found files : fin.FinMap name_cmp V) (ids : fin.FinMap name_cmp W)
      → found ≡ or_empty (fin.get old path) → taken ≡ fin.remove old path → Strikes found ids files → PutsBack taken new path files
      → StrikesIds old path ids new
  strikes_ids old taken new path found files ids f t struck back q i =
      put_at old taken new path found files f t back q i ∙ inside (eq_by_cmp name_cmp q path) refl
    where
      inside : (b : Bool) → eq_by_cmp name_cmp q path ≡ b → cond b (fin.get files i) (look old q i) ≡ cond (b && is_some (fin.get ids i)) None (look old q i)
      inside true e = struck i ∙ ap (cond (is_some (fin.get ids i)) None) (found_at old path found f i ∙ same_path old q path e i)
      inside false e = refl

  -- ---- all paths: the ids that are left, and those of the map so far

  abbrev pub LaysRest : Marked V → Marked V → Marked V → Marked V → Type 0
  LaysRest old newer rest new = (q i : List ℕ) → or_else (look rest q i) (look new q i) ≡ or_else (look newer q i) (look old q i)

  pub lays_more : (old newer rest rest' new new' : Marked V) (path : List ℕ) (files : fin.FinMap name_cmp V) → LaysRest old newer rest new
      → fin.get rest path ≡ Some files → rest' ≡ fin.remove rest path → LaysIds new path files new' → LaysRest old newer rest' new'
  lays_more old newer rest rest' new new' path files inv here left laid q i =
      ap (or_else (look rest' q i)) (laid q i) ∙ inside (eq_by_cmp name_cmp q path) refl ∙ inv q i
    where
      inside : (b : Bool) → eq_by_cmp name_cmp q path ≡ b
          → or_else (look rest' q i) (or_else (cond b (fin.get files i) None) (look new q i)) ≡ or_else (look rest q i) (look new q i)
      inside true e =
          (λ k. or_else (option_and_then (λ n. fin.get n i) ((at_path rest rest' path left q ∙ ap (λ b. cond b None (fin.get rest q)) e) k))
          (or_else (ap (option_and_then (λ n. fin.get n i)) (sym here) k) (look new q i)))
          ∙ ap (λ o. or_else o (look new q i)) (same_path rest q path e i)
      inside false e =
          ap (λ o. or_else o (look new q i)) (ap (option_and_then (λ n. fin.get n i)) (at_path rest rest' path left q ∙ ap (λ b. cond b None (fin.get rest q)) e))

  pub lays_all : (old newer rest new : Marked V) → LaysRest old newer rest new → rest ≡ fin.empty → LaysMarked old newer new
  lays_all old newer rest new inv none q i =
      sym (ap (λ o. or_else o (look new q i)) (ap (option_and_then (λ n. fin.get n i)) (ap (λ m. fin.get m q) none ∙ fin.get-empty name_cmp q))) ∙ inv q i

  -- ---- files

  both_told : (plain : fin.FinMap name_cmp V) (marked : Marked V) (path id : List ℕ) → fin.get (by_file plain marked) (marked_file path id) ≡ look marked path id
  both_told plain marked path id = get-by_file plain marked path (Some id)

  plain_told : (plain : fin.FinMap name_cmp V) (marked : Marked V) (path : List ℕ) → fin.get (by_file plain marked) (plain_file path) ≡ fin.get plain path
  plain_told plain marked path = get-by_file plain marked path None

  pub lays_files : (p n p' : fin.FinMap name_cmp V) (m k m' : Marked V) → LaysOver p n p' → LaysMarked m k m' → LaysOver (by_file p m) (by_file n k) (by_file p' m')
  lays_files p n p' m k m' h g f = each f.path f.id
    where
      each : (q : List ℕ) (o : Option (List ℕ)) → fin.get (by_file p' m') (record { path = q; id = o }) ≡ or_else (fin.get (by_file n k) (record { path = q; id = o })) (fin.get (by_file p m) (record { path = q; id = o }))
      each q None = plain_told p' m' q ∙ h q ∙ (λ i. or_else (sym (plain_told n k q) i) (sym (plain_told p m q) i))
      each q (Some id) = both_told p' m' q id ∙ g q id ∙ (λ i. or_else (sym (both_told n k q id) i) (sym (both_told p m q id) i))

module _ {V W : Type 0} where
  pub strikes_files : (p p' : fin.FinMap name_cmp V) (n : fin.FinMap name_cmp W) (m m' : Marked V) (k : Marked W) → Strikes p n p' → StrikesMarked m k m'
      → Strikes (by_file p m) (by_file n k) (by_file p' m')
  strikes_files p p' n m m' k h g f = each f.path f.id
    where
      each : (q : List ℕ) (o : Option (List ℕ)) → fin.get (by_file p' m') (record { path = q; id = o }) ≡ cond (is_some (fin.get (by_file n k) (record { path = q; id = o }))) None (fin.get (by_file p m) (record { path = q; id = o }))
      each q None = plain_told p' m' q ∙ h q ∙ (λ i. cond (is_some (sym (plain_told n k q) i)) None (sym (plain_told p m q) i))
      each q (Some id) = both_told p' m' q id ∙ g q id ∙ (λ i. cond (is_some (sym (both_told n k q id) i)) None (sym (both_told p m q id) i))

  -- without the entries that are left, the map is the old one without all keys
  pub struck_more : (q n : List ℕ) (w : W) (rest : List (List ℕ × W)) (m m' : fin.FinMap name_cmp V) → m' ≡ fin.remove m n
      → cond (is_some (fin.find name_cmp q rest)) None (fin.get m' q) ≡ cond (is_some (fin.find name_cmp q ((n, w) ∷ rest))) None (fin.get m q)
  struck_more q n w rest m m' e =
      ap (cond (is_some (fin.find name_cmp q rest)) None) (ap (λ m. fin.get m q) e ∙ fin.get-remove nat_list_cmp_total m n q)
      ∙ inside (eq_by_cmp name_cmp q n) (is_some (fin.find name_cmp q rest)) refl
    where
      inside : (b s : Bool) → is_some (fin.find name_cmp q rest) ≡ s
          → cond (is_some (fin.find name_cmp q rest)) None (cond b None (fin.get m q)) ≡ cond (is_some (cond b (Some w) (fin.find name_cmp q rest))) None (fin.get m q)
      inside true true t = ap (λ s. cond s None None) t
      inside true false t = ap (λ s. cond s None None) t
      inside false s t = refl

  pub record StrikesRest (old : Marked V) (others : Marked W) (rest : List (List ℕ × fin.FinMap name_cmp W)) (new : Marked V) : Type 0 where
    pub struck : (q i : List ℕ) → cond (is_some (option_and_then (λ n. fin.get n i) (fin.find name_cmp q rest))) None (look new q i) ≡ cond (is_some (look others q i)) None (look old q i)
    pub sorted : T (fin.is_sorted name_cmp rest)

  pub strikes_none : (old : Marked V) (others : Marked W) (rest : List (List ℕ × fin.FinMap name_cmp W)) → rest ≡ fin.entries others → StrikesRest old others rest old
  strikes_none old others rest e = record {
    struck = λ q i. ap (λ o. cond (is_some (option_and_then (λ n. fin.get n i) o)) None (look old q i)) (ap (fin.find name_cmp q) e ∙ sym (fin.get-entries others q));
    sorted = subst (λ es. T (fin.is_sorted name_cmp es)) (sym e) (fin.entries_sorted others);
  }

  pub strikes_more : (old : Marked V) (others : Marked W) (path : List ℕ) (ids : fin.FinMap name_cmp W) (rest : List (List ℕ × fin.FinMap name_cmp W)) (new new' : Marked V)
      → StrikesRest old others ((path, ids) ∷ rest) new → StrikesIds new path ids new' → StrikesRest old others rest new'
  strikes_more old others path ids rest new new' inv struck = record {
    struck = λ q i. ap (cond (is_some (option_and_then (λ n. fin.get n i) (fin.find name_cmp q rest))) None) (struck q i) ∙ inside q i (eq_by_cmp name_cmp q path) refl ∙ inv.struck q i;
    sorted = sorted_rest path ids rest inv.sorted;
  }
    where
      inside : (q i : List ℕ) (b : Bool) → eq_by_cmp name_cmp q path ≡ b
          → cond (is_some (option_and_then (λ n. fin.get n i) (fin.find name_cmp q rest))) None (cond (b && is_some (fin.get ids i)) None (look new q i))
          ≡ cond (is_some (option_and_then (λ n. fin.get n i) (cond b (Some ids) (fin.find name_cmp q rest)))) None (look new q i)
      inside q i true e =
          ap (λ o. cond (is_some (option_and_then (λ n. fin.get n i) o)) None (cond (is_some (fin.get ids i)) None (look new q i)))
          (ap (λ p. fin.find name_cmp p rest) (exact_names q path (equal (name_cmp q path) e)) ∙ no_more path ids rest inv.sorted)
      inside q i false e = refl

  pub strikes_all : (old : Marked V) (others : Marked W) (rest : List (List ℕ × fin.FinMap name_cmp W)) (new : Marked V) → StrikesRest old others rest new → rest ≡ [] → StrikesMarked old others new
  strikes_all old others rest new inv none q i =
      ap (λ es. cond (is_some (option_and_then (λ n. fin.get n i) (fin.find name_cmp q es))) None (look new q i)) (sym none) ∙ inv.struck q i
