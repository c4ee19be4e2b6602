-- Laws of files: what a look-up finds after each change, when two are the same, and what the list of names has.
use Rattle.std.proofs.Common.{◌≡◌, ◌≢◌, ℕ, Bool, true, false, cond, List, [], ◌∷◌, ◌&&◌, map, refl, sym, ap, ◌∙◌}
use Rattle.std.specs.Prelude.{Option, None, Some, Contains, Decides, bytes_eq, is_some}
use Rattle.std.specs.Ordering.{nat_cmp, eq_by_cmp, is_lt}
use Rattle.std.specs.declared.cmp.Ordering.{Ordering}
use Rattle.std.specs.declared.cmp.Ordering.TheVariants.{Less, Equal, Greater}
use Rattle.std.specs.Cmp.Lexicographic.{slice_cmp}
use Rattle.std.specs.List.{AllByRecursion}
use Rattle.std.specs.List.Sorted.{IsStrictlySortedBy}
use Rattle.std.specs.FinMap as fin
use Rattle.std.specs.FinMap.Entries.{below_all}
use Rattle.std.proofs.lemmas.Bool.{false_from_ne_true}
use Rattle.std.proofs.lemmas.Cmp.{nat_list_cmp_total}
use Rattle.std.proofs.lemmas.Map.Lookups.{exact_bytes}
use Rattle.std.proofs.lemmas.Map.Made.{is_member-Decides}
use Rattle.std.proofs.lemmas.Map.Text.{is_eq-slice_cmp}
use Rattle.std.proofs.lemmas.Slice.Eq.{bytes_eq-Decides}
use Rattle.object_store.specs.Files.{Files, no_files, file_of, stands, with_file, without_file, names_of, put_whole}
use lib.Dec.{T}

-- ---- names are the same exactly where their bytes are

same_name-Decides : (a b : List ℕ) → Decides (eq_by_cmp (slice_cmp nat_cmp) a b) (a ≡ b)
same_name-Decides a b =
    let d : Decides (bytes_eq a b) (a ≡ b) = bytes_eq-Decides a b in
    (λ e. d.0 (sym (is_eq-slice_cmp a b) ∙ e), λ e. is_eq-slice_cmp a b ∙ d.1 e)

same_name-itself : (name : List ℕ) → eq_by_cmp (slice_cmp nat_cmp) name name ≡ true
same_name-itself name = (same_name-Decides name name).1 refl

same_name-other : (a b : List ℕ) → a ≢ b → eq_by_cmp (slice_cmp nat_cmp) a b ≡ false
same_name-other a b differ = false_from_ne_true _ (λ e. differ ((same_name-Decides a b).0 e))

-- ---- look-ups

pub file_of-no_files : (name : List ℕ) → file_of no_files name ≡ None
file_of-no_files name = fin.get-empty (slice_cmp nat_cmp) name

-- at any name, by the test of bytes
pub file_of-with_file : (files : Files) (name bytes q : List ℕ) → file_of (with_file files name bytes) q ≡ cond (bytes_eq q name) (Some bytes) (file_of files q)
file_of-with_file files name bytes q =
    fin.get-insert nat_list_cmp_total files name bytes q ∙ ap (λ b. cond b (Some bytes) (file_of files q)) (is_eq-slice_cmp q name)

pub file_of-without_file : (files : Files) (name q : List ℕ) → file_of (without_file files name) q ≡ cond (bytes_eq q name) None (file_of files q)
file_of-without_file files name q =
    fin.get-remove nat_list_cmp_total files name q ∙ ap (λ b. cond b None (file_of files q)) (is_eq-slice_cmp q name)

pub file_of-with_file_same : (files : Files) (name bytes : List ℕ) → file_of (with_file files name bytes) name ≡ Some bytes
file_of-with_file_same files name bytes =
    fin.get-insert nat_list_cmp_total files name bytes name ∙ ap (λ b. cond b (Some bytes) (file_of files name)) (same_name-itself name)

pub file_of-with_file_other : (files : Files) (name bytes q : List ℕ) → q ≢ name → file_of (with_file files name bytes) q ≡ file_of files q
file_of-with_file_other files name bytes q differ =
    fin.get-insert nat_list_cmp_total files name bytes q ∙ ap (λ b. cond b (Some bytes) (file_of files q)) (same_name-other q name differ)

pub file_of-without_file_same : (files : Files) (name : List ℕ) → file_of (without_file files name) name ≡ None
file_of-without_file_same files name =
    fin.get-remove nat_list_cmp_total files name name ∙ ap (λ b. cond b None (file_of files name)) (same_name-itself name)

pub file_of-without_file_other : (files : Files) (name q : List ℕ) → q ≢ name → file_of (without_file files name) q ≡ file_of files q
file_of-without_file_other files name q differ =
    fin.get-remove nat_list_cmp_total files name q ∙ ap (λ b. cond b None (file_of files q)) (same_name-other q name differ)

-- ---- files as a whole

-- files that answer alike are the same
pub same_files : (a b : Files) → ((name : List ℕ) → file_of a name ≡ file_of b name) → a ≡ b
same_files a b alike = fin.same_map nat_list_cmp_total exact_bytes a b alike

kept_or_gone : (b : Bool) (o : Option (List ℕ)) → (b ≡ true → o ≡ None) → cond b None o ≡ o
kept_or_gone true o h = sym (h refl)
kept_or_gone false o h = refl

-- removing a name that does not stand changes nothing
pub without_file-absent : (files : Files) (name : List ℕ) → file_of files name ≡ None → without_file files name ≡ files
without_file-absent files name absent =
    same_files _ _ (λ q. file_of-without_file files name q ∙ kept_or_gone (bytes_eq q name) (file_of files q) (λ e. ap (file_of files) ((bytes_eq-Decides q name).0 e) ∙ absent))

-- a put of a new file, by whether the name stands
pub put_whole-there : (files : Files) (name bytes : List ℕ) → stands files name ≡ true → put_whole files name bytes ≡ files
put_whole-there files name bytes there = ap (λ b. cond b files (with_file files name bytes)) there

pub put_whole-absent : (files : Files) (name bytes : List ℕ) → file_of files name ≡ None → put_whole files name bytes ≡ with_file files name bytes
put_whole-absent files name bytes absent = ap (λ o. cond (is_some o) files (with_file files name bytes)) absent

kept : (b : Bool) (files more : Files) (q x : List ℕ) → file_of files q ≡ Some x → (b ≡ false → file_of more q ≡ Some x) → file_of (cond b files more) q ≡ Some x
kept true files more q x h g = h
kept false files more q x h g = g refl

stands-false : (o : Option (List ℕ)) (x : List ℕ) → o ≡ Some x → is_some o ≡ false → ⊥
stands-false o x e f = let k : true ≡ false = ap is_some (sym e) ∙ f in cc

-- no file that stands is overwritten
pub file_of-put_whole_kept : (files : Files) (name bytes q x : List ℕ) → file_of files q ≡ Some x → file_of (put_whole files name bytes) q ≡ Some x
file_of-put_whole_kept files name bytes q x h =
    kept (stands files name) files (with_file files name bytes) q x h
    (λ absent. file_of-with_file_other files name bytes q (λ e. stands-false (file_of files name) x (ap (file_of files) (sym e) ∙ h) absent) ∙ h)

-- ---- the list of names

both : (a b : Bool) → T (a && b) → (T a) × (T b)
both true b h = (tt, h)
both false b h = absurd h

less : (o : Ordering) → T (is_lt o) → o ≡ Less
less Less h = refl
less Equal h = absurd h
less Greater h = absurd h

above_all : (k : List ℕ) (es : List (List ℕ × List ℕ)) → T (below_all (slice_cmp nat_cmp) k es) → AllByRecursion (λ y. slice_cmp nat_cmp k y ≡ Less) (map (λ e. e.0) es)
above_all k [] h = tt
above_all k (e ∷ es) h = let p = both (is_lt (slice_cmp nat_cmp k e.0)) (below_all (slice_cmp nat_cmp) k es) h in (less _ p.0, above_all k es p.1)

in_order : (es : List (List ℕ × List ℕ)) → T (fin.is_sorted (slice_cmp nat_cmp) es) → IsStrictlySortedBy (slice_cmp nat_cmp) (map (λ e. e.0) es)
unfolding IsStrictlySortedBy
in_order [] h = tt
in_order (e ∷ es) h = let p = both (below_all (slice_cmp nat_cmp) e.0 es) (fin.is_sorted (slice_cmp nat_cmp) es) h in (above_all e.0 es p.0, in_order es p.1)

-- each name is below those after it in byte order, so that each stands once
pub names_of-rise : (files : Files) → IsStrictlySortedBy (slice_cmp nat_cmp) (names_of files)
names_of-rise files = in_order (fin.entries files) (fin.entries_sorted files)

-- the names are exactly those that stand
pub names_of-Decides : (files : Files) (name : List ℕ) → Decides (stands files name) (Contains (names_of files) name)
names_of-Decides files name =
    let member : Decides _ (Contains (names_of files) name) = is_member-Decides same_name-Decides (names_of files) name in
    let same = fin.contains_key-keys files name in
    (λ e. member.0 (sym same ∙ e), λ e. same ∙ member.1 e)
