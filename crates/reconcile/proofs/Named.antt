-- A tree with texts as keys against the finite map that it is seen as.
use Rattle.std.proofs.Common.{◌≡◌, ℕ, List, [], ◌∷◌, ◌++◌, Bool, true, false, ◌&&◌, cond, map, length, arith, refl, ap, sym, subst, ◌∙◌, string_bytes}
use Rattle.std.specs.Prelude.{Option, Some, None}
use Rattle.std.specs.declared.string.String.{String}
use Rattle.std.specs.declared.alloc.Global.{Global}
use Rattle.std.specs.declared.cmp.Ordering.TheVariants.{Less}
use Rattle.std.specs.Ordering.{eq_by_cmp, is_eq, is_lt}
use Rattle.std.specs.Cmp.{eq_by_cmp_equiv}
use Rattle.std.specs.Cmp.Lexicographic.{nat_list_cmp_total}
use Rattle.std.specs.BTreeMap.{BTreeMap, UpdatesBy, is_at, IsOrdered, values}
use Rattle.std.specs.Map.{lookup}
use Rattle.std.specs.String.{string_cmp}
use Rattle.std.specs.FinMap as fin
use Rattle.std.specs.List.{AllByRecursion}
use Rattle.std.specs.List.Sorted.{IsStrictlySortedBy}
use Rattle.std.specs.Map.{keys_of, values_of}
use Rattle.std.proofs.lemmas.Map.Keys.{sorted_head, sorted_tail}
use lib.Dec.{T}
use Rattle.std.proofs.lemmas.Map.Text.{btree_map_updates_text, text_cmp, is_eq-slice_cmp}
use Rattle.action_types.specs.Files.{name_cmp}
use Rattle.reconcile.specs.Named.{named, by_bytes}
use Rattle.reconcile.specs.Replay.{or_else}
use Rattle.reconcile.proofs.Last.{or_else-none, or_else_assoc, newer}

-- only equal names tie
pub exact_names : fin.IsAntisymmetric name_cmp
exact_names = fin.slice_cmp-IsAntisymmetric fin.nat_cmp-IsAntisymmetric

both : (a b : Bool) → T a → T b → T (a && b)
both true b p q = q
both false b p q = absurd p

first : (a b : Bool) → T (a && b) → T a
first true b p = tt
first false b p = p

second : (a b : Bool) → T (a && b) → T b
second true b p = p
second false b p = absurd p

pub cond-or_else : {V : Type 0} (b : Bool) (v : V) (o p : Option V) → cond b (Some v) (or_else o p) ≡ or_else (cond b (Some v) o) p
cond-or_else true v o p = refl
cond-or_else false v o p = refl

module _ {V : Type 0} where
  found : (q : List ℕ) (es : List (String Global × V)) → fin.find name_cmp q (named es) ≡ lookup (is_at (text_cmp q)) es
  found q [] = refl
  found q (e ∷ es) = ap (cond (is_eq (text_cmp q e.0)) (Some e.1)) (found q es)

  pub get-by_bytes : (m : BTreeMap (String Global) V) (q : List ℕ) → fin.get (by_bytes m) q ≡ lookup (is_at (text_cmp q)) m.entries
  get-by_bytes m q = fin.get-from_entries nat_list_cmp_total (named m.entries) q ∙ found q m.entries

  -- how a change at one name shows at any name
  changed : (m n : BTreeMap (String Global) V) (bs : List ℕ) (w : Option V) → UpdatesBy string_cmp (text_cmp bs) m n w
      → (q : List ℕ) → fin.get (by_bytes n) q ≡ cond (eq_by_cmp name_cmp q bs) w (fin.get (by_bytes m) q)
  changed m n bs w h q =
      get-by_bytes n q ∙ btree_map_updates_text bs m n w h q
      ∙ ap (λ b. cond b w (lookup (is_at (text_cmp q)) m.entries)) (sym (is_eq-slice_cmp bs q) ∙ (eq_by_cmp_equiv nat_list_cmp_total).symm bs q)
      ∙ ap (cond (eq_by_cmp name_cmp q bs) w) (sym (get-by_bytes m q))

  pub by_bytes-insert : (m n : BTreeMap (String Global) V) (bs : List ℕ) (v : V) → UpdatesBy string_cmp (text_cmp bs) m n (Some v)
      → by_bytes n ≡ fin.insert (by_bytes m) bs v
  by_bytes-insert m n bs v h =
      fin.same_map nat_list_cmp_total exact_names _ _ (λ q. changed m n bs (Some v) h q ∙ sym (fin.get-insert nat_list_cmp_total (by_bytes m) bs v q))

  pub by_bytes-remove : (m n : BTreeMap (String Global) V) (bs : List ℕ) → UpdatesBy string_cmp (text_cmp bs) m n None
      → by_bytes n ≡ fin.remove (by_bytes m) bs
  by_bytes-remove m n bs h =
      fin.same_map nat_list_cmp_total exact_names _ _ (λ q. changed m n bs None h q ∙ sym (fin.get-remove nat_list_cmp_total (by_bytes m) bs q))

  -- ---- the values in order

  rising-cons : (x : String Global × V) (es : List (String Global × V)) → AllByRecursion (λ y. string_cmp x.0 y ≡ Less) (keys_of es)
      → T (fin.is_sorted name_cmp (named es)) → T (fin.is_sorted name_cmp (named (x ∷ es)))
  rising-cons x [] h s = tt
  rising-cons x (e ∷ es) h s = both _ _ (both _ _ (subst (λ o. T (is_lt o)) (sym h.0) tt) (first _ _ (rising-cons x es h.1 (second _ _ s)))) s

  rising : (es : List (String Global × V)) → IsStrictlySortedBy string_cmp (keys_of es) → T (fin.is_sorted name_cmp (named es))
  rising [] h = tt
  rising (e ∷ es) h = rising-cons e es (sorted_head string_cmp e.0 (keys_of es) h) (rising es (sorted_tail string_cmp e.0 (keys_of es) h))

  values-named : (es : List (String Global × V)) → map (λ e. e.1) (named es) ≡ values_of es
  values-named [] = refl
  values-named (e ∷ es) = ap (λ vs. e.1 ∷ vs) (values-named es)

  pub entries-by_bytes : (m : BTreeMap (String Global) V) → IsOrdered string_cmp m → fin.entries (by_bytes m) ≡ named m.entries
  entries-by_bytes m h =
      let sorted = rising m.entries h in
      let same = fin.same_map nat_list_cmp_total exact_names (by_bytes m) (fin.from_sorted (named m.entries))
      (λ q. fin.get-from_entries nat_list_cmp_total (named m.entries) q ∙ sym (fin.get-from_sorted name_cmp (named m.entries) q sorted)) in
      ap fin.entries same ∙ fin.entries-from_sorted name_cmp (named m.entries) sorted

  pub values-by_bytes : (m : BTreeMap (String Global) V) → IsOrdered string_cmp m → fin.values (by_bytes m) ≡ values m
  values-by_bytes m h = ap (map (λ e. e.1)) (entries-by_bytes m h) ∙ values-named m.entries

  none_of : (es : List (String Global × V)) → length es ≡ 0 → fin.from_entries {R = name_cmp} (named es) ≡ fin.empty
  none_of [] e = refl
  none_of (x ∷ es) e = absurd (omega arith)

  pub by_bytes-none : (m : BTreeMap (String Global) V) → length m.entries ≡ 0 → by_bytes m ≡ fin.empty
  by_bytes-none m e = none_of m.entries e

  -- ---- a copy that is made from the last entry on

  find-push : (q : List ℕ) (es : List (String Global × V)) (e : String Global × V)
      → fin.find name_cmp q (named (es ++ e ∷ [])) ≡ or_else (fin.find name_cmp q (named es)) (cond (eq_by_cmp name_cmp q (string_bytes e.0)) (Some e.1) None)
  find-push q [] e = refl
  find-push q (x ∷ es) e =
      ap (cond (eq_by_cmp name_cmp q (string_bytes x.0)) (Some x.1)) (find-push q es e) ∙ cond-or_else (eq_by_cmp name_cmp q (string_bytes x.0)) x.1 _ _

  pub copy_more : (s t : List (String Global × V)) (old new : fin.FinMap name_cmp V) (e : String Global × V) → s ≡ t ++ e ∷ []
      → new ≡ fin.insert old (string_bytes e.0) e.1
      → (q : List ℕ) → or_else (fin.find name_cmp q (named t)) (fin.get new q) ≡ or_else (fin.find name_cmp q (named s)) (fin.get old q)
  copy_more s t old new e split made q =
      ap (or_else (fin.find name_cmp q (named t)))
      (ap (λ m. fin.get m q) made ∙ fin.get-insert nat_list_cmp_total old (string_bytes e.0) e.1 q ∙ newer (eq_by_cmp name_cmp q (string_bytes e.0)) e.1 (fin.get old q))
      ∙ sym (or_else_assoc (fin.find name_cmp q (named t)) (cond (eq_by_cmp name_cmp q (string_bytes e.0)) (Some e.1) None) (fin.get old q))
      ∙ ap (λ o. or_else o (fin.get old q)) (sym (find-push q t e) ∙ ap (λ es. fin.find name_cmp q (named es)) (sym split))

  pub copy_all : (m : BTreeMap (String Global) V) (s : List (String Global × V)) (n : fin.FinMap name_cmp V) → s ≡ []
      → ((q : List ℕ) → or_else (fin.find name_cmp q (named s)) (fin.get n q) ≡ fin.get (by_bytes m) q) → n ≡ by_bytes m
  copy_all m s n none same =
      fin.same_map nat_list_cmp_total exact_names n (by_bytes m) (λ q. ap (λ es. or_else (fin.find name_cmp q (named es)) (fin.get n q)) (sym none) ∙ same q)

  pub copy_none : (m : BTreeMap (String Global) V) (s : List (String Global × V)) (n : fin.FinMap name_cmp V) → s ≡ m.entries → n ≡ fin.empty
      → (q : List ℕ) → or_else (fin.find name_cmp q (named s)) (fin.get n q) ≡ fin.get (by_bytes m) q
  copy_none m s n all none q =
      ap (or_else (fin.find name_cmp q (named s))) (ap (λ n. fin.get n q) none ∙ fin.get-empty name_cmp q) ∙ or_else-none (fin.find name_cmp q (named s))
      ∙ ap (λ es. fin.find name_cmp q (named es)) all ∙ sym (fin.get-from_entries nat_list_cmp_total (named m.entries) q)
