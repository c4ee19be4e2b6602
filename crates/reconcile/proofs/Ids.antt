-- Unique ids, and the search for one among the names of a map.
use Rattle.std.proofs.Common.{◌≡◌, ℕ, ℤ, arith, nat_eq, ◌==◌, Bool, true, false, ◌&&◌, cond, List, [], ◌∷◌, ◌++◌, length, take, drop, refl, ap, sym, ◌∙◌, string_bytes, bytes_eq, append_assoc}
use Rattle.std.specs.Prelude.{Some, None}
use Rattle.std.specs.declared.string.String.{String}
use Rattle.std.specs.declared.alloc.Global.{Global}
use Rattle.std.proofs.lemmas.Bool.Decides.{nat_tests}
use Rattle.std.specs.Fmt.{signed_decimal}
use Rattle.std.specs.FinMap as fin
use Rattle.std.proofs.lemmas.List.{take-append-drop, take_at, append_cancel_left}
use Rattle.std.proofs.lemmas.Map.Text.{is_eq-slice_cmp}
use Rattle.std.proofs.lemmas.Slice.Eq.{bytes_eq-Decides}
use Rattle.action_types.specs.declared.actions.Vector.{Vector}
use Rattle.action_types.specs.Files.{name_cmp, offset_text, unique_id}
use Rattle.reconcile.specs.Named.{named}

same_truth : (a b : Bool) → (a ≡ true → b ≡ true) → (b ≡ true → a ≡ true) → a ≡ b
same_truth true b f g = sym (f refl)
same_truth false true f g = g refl
same_truth false false f g = refl

-- a text that begins with p is p and more exactly where the rest is what is more
begun : (p q s x : List ℕ) → bytes_eq (take (length p) s) p ≡ true → x ≡ drop (length p) s → bytes_eq (p ++ q) s ≡ bytes_eq q x
begun p q s x e h =
    let whole : s ≡ p ++ x = sym (take-append-drop (length p) s) ∙ (λ i. (bytes_eq-Decides (take (length p) s) p).0 e i ++ sym h i) in
    same_truth (bytes_eq (p ++ q) s) (bytes_eq q x)
    (λ t. (bytes_eq-Decides q x).1 (append_cancel_left p q x ((bytes_eq-Decides (p ++ q) s).0 t ∙ whole)))
    (λ t. (bytes_eq-Decides (p ++ q) s).1 (ap (λ r. p ++ r) ((bytes_eq-Decides q x).0 t) ∙ sym whole))

not_begun : (p q s : List ℕ) → bytes_eq (take (length p) s) p ≡ false → bytes_eq (p ++ q) s ≡ false
not_begun p q s e =
    same_truth (bytes_eq (p ++ q) s) false
    (λ t. sym e ∙ (bytes_eq-Decides (take (length p) s) p).1 (ap (take (length p)) (sym ((bytes_eq-Decides (p ++ q) s).0 t)) ∙ take_at p q (length p) refl))
    (λ t. cc)

parts : (v : Vector) → unique_id v ≡ v.storage ++ (v.locator ++ offset_text v.offset)
unfolding unique_id
parts v = append_assoc v.storage v.locator (offset_text v.offset)

pub whole_id : (v : Vector) (id : List ℕ) → bytes_eq (v.storage ++ (v.locator ++ offset_text v.offset)) id ≡ bytes_eq (unique_id v) id
whole_id v id = ap (λ u. bytes_eq u id) (sym (parts v))

pub prefix_not : (p q s start text : List ℕ) → start ≡ p → text ≡ s → bytes_eq (take (length start) text) start ≡ false → false ≡ bytes_eq (p ++ q) s
prefix_not p q s start text g h e = sym (not_begun p q s (sym (λ i. bytes_eq (take (length (g i)) (h i)) (g i)) ∙ e))

pub prefix_then : (p q s start text rest : List ℕ) (r : Bool) → start ≡ p → text ≡ s → bytes_eq (take (length start) text) start ≡ true → rest ≡ drop (length start) text
    → r ≡ bytes_eq q rest → r ≡ bytes_eq (p ++ q) s
prefix_then p q s start text rest r g h e d is =
    is ∙ sym (begun p q s rest (sym (λ i. bytes_eq (take (length (g i)) (h i)) (g i)) ∙ e) (d ∙ (λ i. drop (length (g i)) (h i))))

-- ---- what an offset adds

pub empty_is : (xs : List ℕ) → (length xs == 0) ≡ bytes_eq [] xs
empty_is [] = refl
empty_is (x ∷ xs) = grind (arith, nat_tests)

is_same : (m n : ℕ) → nat_eq m n ≡ true → m ≡ n
is_same m n t = let same : m ∷ [] ≡ n ∷ [] = (bytes_eq-Decides (m ∷ []) (n ∷ [])).0 (ap (λ b. b && true) t) in cc

pub mark_then : (n : ℤ) (text digits shown : List ℕ) (mark : ℕ) (r : Bool) → text ≡ mark ∷ digits → mark ≡ 64 → shown ≡ signed_decimal n → r ≡ bytes_eq shown digits
    → r ≡ bytes_eq (offset_text (Some n)) text
mark_then n text digits shown mark r split m s is =
    is ∙ ap (λ d. bytes_eq d digits) s
    ∙ sym (ap (bytes_eq (offset_text (Some n))) split ∙ ap (λ k. bytes_eq (64 ∷ signed_decimal n) (k ∷ digits)) m)

pub mark_not : (n : ℤ) (text digits : List ℕ) (mark : ℕ) → text ≡ mark ∷ digits → (mark ≡ 64 → ⊥) → nat_eq mark 64 ≡ bytes_eq (offset_text (Some n)) text
mark_not n text digits mark split other =
    same_truth (nat_eq mark 64) (bytes_eq (offset_text (Some n)) text)
    (λ t. absurd (other (is_same mark 64 t)))
    (λ t. let same : 64 ∷ signed_decimal n ≡ mark ∷ digits = (bytes_eq-Decides (64 ∷ signed_decimal n) text).0 t ∙ split in
    let e : mark ≡ 64 = cc in absurd (other e))

pub mark_none : (n : ℤ) (text : List ℕ) → length text ≡ 0 → false ≡ bytes_eq (offset_text (Some n)) text
mark_none n [] e = refl
mark_none n (x ∷ xs) e = absurd (omega arith)

-- ---- the search

module _ {V : Type 0} where
  next_name : (q : List ℕ) (es rest : List (String Global × V)) (e : String Global × V) (b : Bool) → es ≡ e ∷ rest → bytes_eq q (string_bytes e.0) ≡ b
      → fin.find name_cmp q (named es) ≡ cond b (Some e.1) (fin.find name_cmp q (named rest))
  next_name q es rest e b split is =
      ap (λ es. fin.find name_cmp q (named es)) split
      ∙ ap (λ b. cond b (Some e.1) (fin.find name_cmp q (named rest))) (is_eq-slice_cmp q (string_bytes e.0) ∙ is)

  pub name_found : (q : List ℕ) (es rest : List (String Global × V)) (e : String Global × V) → es ≡ e ∷ rest → bytes_eq q (string_bytes e.0) ≡ true
      → Some e.1 ≡ fin.find name_cmp q (named es)
  name_found q es rest e split is = sym (next_name q es rest e true split is)

  pub name_passed : (q : List ℕ) (es rest : List (String Global × V)) (e : String Global × V) → es ≡ e ∷ rest → bytes_eq q (string_bytes e.0) ≡ false
      → fin.find name_cmp q (named rest) ≡ fin.find name_cmp q (named es)
  name_passed q es rest e split is = sym (next_name q es rest e false split is)

  pub no_name : (q : List ℕ) (es : List (String Global × V)) → es ≡ [] → None ≡ fin.find name_cmp q (named es)
  no_name q es none = ap (λ es. fin.find name_cmp q (named es)) (sym none)
