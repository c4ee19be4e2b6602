-- The files that the entries of a map by names hold, as a look-up, an insertion, a removal and the keys leave them.
use Rattle.std.proofs.Common.{◌≡◌, ℕ, Bool, true, false, cond, List, [], ◌∷◌, ◌&&◌, map, refl, sym, ap, subst, ◌∙◌}
use Rattle.std.specs.Prelude.{Option, None, Some, option_map, option_copied, is_some, String, Vec, string_bytes, string_cmp, bytes_eq}
use Rattle.std.specs.Global.{Global}
use Rattle.std.specs.Ordering.{nat_cmp, is_eq, is_lt}
use Rattle.std.specs.Cmp.Lexicographic.{slice_cmp}
use Rattle.std.specs.BTreeMap.{BTreeMap, is_at, UpdatesBy, IsOrdered, keys}
use Rattle.std.specs.Map.{lookup, keys_of}
use Rattle.std.specs.List.{AllByRecursion}
use Rattle.std.specs.List.Sorted.{IsStrictlySortedBy}
use Rattle.std.specs.FinMap as fin
use Rattle.std.specs.FinMap.Entries.{below_all}
use Rattle.std.specs.declared.cmp.Ordering.TheVariants.{Less}
use lib.Dec.{T}
use Rattle.std.proofs.Common.{Bor}
use Rattle.std.specs.Cmp.{eq_by_cmp_equiv}
use Rattle.std.proofs.lemmas.Cmp.{nat_list_cmp_total}
use Rattle.std.proofs.lemmas.Map.Lookups.{exact_bytes}
use Rattle.std.proofs.lemmas.Map.Text.{text_cmp, btree_map_updates_text, is_eq-slice_cmp}
use Rattle.object_store.specs.Files.{Files, file_of, stands, with_file, without_file, names_of, put_whole}
use Rattle.object_store.specs.Held.{named, held}

abbrev Entries : Type 0
Entries = List (String Global × Vec ℕ Global)

find_named : (es : Entries) (bs : List ℕ) → fin.find (slice_cmp nat_cmp) bs (named es) ≡ option_map (λ v. v.items) (lookup (is_at (text_cmp bs)) es)
find_named [] bs = refl
find_named (e ∷ es) bs =
    elim (is_eq (slice_cmp nat_cmp bs (string_bytes e.0))) as (λ b. cond b (Some e.1.items) (fin.find (slice_cmp nat_cmp) bs (named es)) ≡ option_map (λ v. v.items) (cond b (Some e.1) (lookup (is_at (text_cmp bs)) es))) [
      | true ↦ refl
      | false ↦ find_named es bs
    ]

pub file_of-held : (es : Entries) (bs : List ℕ) → file_of (held es) bs ≡ option_map (λ v. v.items) (lookup (is_at (text_cmp bs)) es)
file_of-held es bs = fin.get-from_entries nat_list_cmp_total (named es) bs ∙ find_named es bs

-- what a look-up of the map finds, as the file's bytes
pub found : (es : Entries) (files : Files) (bs : List ℕ) (r : Option (Vec ℕ Global)) → held es ≡ files → r ≡ lookup (is_at (text_cmp bs)) es → option_map (λ v. v.items) r ≡ file_of files bs
found es files bs r e h = ap (option_map (λ v. v.items)) h ∙ sym (file_of-held es bs) ∙ ap (λ m. file_of m bs) e

is_some-option_map : {A B : Type 0} (f : A → B) (o : Option A) → is_some (option_map f o) ≡ is_some o
is_some-option_map f None = refl
is_some-option_map f (Some x) = refl

pub stands-held : (es : Entries) (files : Files) (bs : List ℕ) → held es ≡ files → is_some (lookup (is_at (text_cmp bs)) es) ≡ stands files bs
stands-held es files bs e = sym (is_some-option_map (λ v. v.items) (lookup (is_at (text_cmp bs)) es)) ∙ ap is_some (sym (file_of-held es bs)) ∙ ap (λ m. stands m bs) e

items-cond : (b c : Bool) (v : Option (Vec ℕ Global)) (w : Option (Vec ℕ Global)) → b ≡ c → option_map (λ v. v.items) (cond b v w) ≡ cond c (option_map (λ v. v.items) v) (option_map (λ v. v.items) w)
items-cond true true v w e = refl
items-cond false false v w e = refl
items-cond true false v w e = cc
items-cond false true v w e = cc

same_test : (bs cs : List ℕ) → bytes_eq bs cs ≡ is_eq (slice_cmp nat_cmp cs bs)
same_test bs cs = sym (is_eq-slice_cmp bs cs) ∙ (eq_by_cmp_equiv nat_list_cmp_total).symm bs cs

-- a change at the bytes bs
changed : (m n : BTreeMap (String Global) (Vec ℕ Global)) (bs : List ℕ) (w : Option (Vec ℕ Global))
    → UpdatesBy string_cmp (text_cmp bs) m n w → (cs : List ℕ)
    → file_of (held n.entries) cs ≡ cond (is_eq (slice_cmp nat_cmp cs bs)) (option_map (λ v. v.items) w) (file_of (held m.entries) cs)
changed m n bs w h cs =
    file_of-held n.entries cs
    ∙ ap (option_map (λ v. v.items)) (btree_map_updates_text bs m n w h cs)
    ∙ items-cond (bytes_eq bs cs) (is_eq (slice_cmp nat_cmp cs bs)) w (lookup (is_at (text_cmp cs)) m.entries) (same_test bs cs)
    ∙ ap (cond (is_eq (slice_cmp nat_cmp cs bs)) (option_map (λ v. v.items) w)) (sym (file_of-held m.entries cs))

pub held-insert : (m n : BTreeMap (String Global) (Vec ℕ Global)) (bs : List ℕ) (v : Vec ℕ Global)
    → UpdatesBy string_cmp (text_cmp bs) m n (Some v) → held n.entries ≡ with_file (held m.entries) bs v.items
held-insert m n bs v h =
    fin.same_map nat_list_cmp_total exact_bytes _ _ (λ cs. changed m n bs (Some v) h cs ∙ sym (fin.get-insert nat_list_cmp_total (held m.entries) bs v.items cs))

pub held-remove : (m n : BTreeMap (String Global) (Vec ℕ Global)) (bs : List ℕ)
    → UpdatesBy string_cmp (text_cmp bs) m n None → held n.entries ≡ without_file (held m.entries) bs
held-remove m n bs h =
    fin.same_map nat_list_cmp_total exact_bytes _ _ (λ cs. changed m n bs None h cs ∙ sym (fin.get-remove nat_list_cmp_total (held m.entries) bs cs))

-- ---- the names in order

below : (k : String Global) (es : Entries) → AllByRecursion (λ y. string_cmp k y ≡ Less) (keys_of es) → below_all (slice_cmp nat_cmp) (string_bytes k) (named es) ≡ true
below k [] h = refl
below k (e ∷ es) h = ap (λ o. is_lt o && below_all (slice_cmp nat_cmp) (string_bytes k) (named es)) h.0 ∙ below k es h.1

in_order : (es : Entries) → IsStrictlySortedBy string_cmp (keys_of es) → fin.is_sorted (slice_cmp nat_cmp) (named es) ≡ true
unfolding IsStrictlySortedBy
in_order [] h = refl
in_order (e ∷ es) h = ap (λ b. b && fin.is_sorted (slice_cmp nat_cmp) (named es)) (below e.0 es h.0) ∙ in_order es h.1

entries-held : (es : Entries) → T (fin.is_sorted (slice_cmp nat_cmp) (named es)) → fin.entries (held es) ≡ named es
entries-held es h =
    ap fin.entries (fin.same_map nat_list_cmp_total exact_bytes (held es) (fin.from_sorted (named es)) (λ q. fin.get-from_entries nat_list_cmp_total (named es) q ∙ sym (fin.get-from_sorted (slice_cmp nat_cmp) (named es) q h)))
    ∙ fin.entries-from_sorted (slice_cmp nat_cmp) (named es) h

names-named : (es : Entries) → map (λ e. e.0) (named es) ≡ map string_bytes (keys_of es)
names-named [] = refl
names-named (e ∷ es) = ap (λ (rest : List (List ℕ)). string_bytes e.0 ∷ rest) (names-named es)

pub names_of-held : (m : BTreeMap (String Global) (Vec ℕ Global)) (files : Files) → held m.entries ≡ files → IsOrdered string_cmp m → names_of files ≡ map string_bytes (keys m)
names_of-held m files e o =
    ap names_of (sym e)
    ∙ ap (map (λ p. p.0)) (entries-held m.entries (subst T (sym (in_order m.entries o)) tt))
    ∙ names-named m.entries

pub items_of_found : (r : Option (Bor (Vec ℕ Global))) → option_map (λ v. v.now.items) r ≡ option_map (λ v. v.items) (option_copied r)
items_of_found None = refl
items_of_found (Some v) = refl

pub put-held : (before : Files) (m n : BTreeMap (String Global) (Vec ℕ Global)) (bs bytes key : List ℕ) (v : Vec ℕ Global) (there : Bool)
    → held m.entries ≡ before → there ≡ false → there ≡ stands before bs → key ≡ bs → v.items ≡ bytes
    → UpdatesBy string_cmp (text_cmp key) m n (Some v) → held n.entries ≡ put_whole before bs bytes
put-held before m n bs bytes key v there e absent is same_key same_bytes h =
    held-insert m n key v h
    ∙ ap (λ files. with_file files key v.items) e
    ∙ ap (λ k. with_file before k v.items) same_key
    ∙ ap (with_file before bs) same_bytes
    ∙ ap (λ b. cond b before (with_file before bs bytes)) (sym absent ∙ is)

pub set-held : (before : Files) (m n : BTreeMap (String Global) (Vec ℕ Global)) (bs key : List ℕ) (v : Vec ℕ Global)
    → held m.entries ≡ before → key ≡ bs → v.items ≡ []
    → UpdatesBy string_cmp (text_cmp key) m n (Some v) → held n.entries ≡ with_file before bs []
set-held before m n bs key v e same none h =
    held-insert m n key v h
    ∙ ap (λ files. with_file files key v.items) e
    ∙ ap (λ k. with_file before k v.items) same
    ∙ ap (with_file before bs) none
