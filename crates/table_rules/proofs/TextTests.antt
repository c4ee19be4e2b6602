-- Tests on lists and on texts.
use Rattle.std.proofs.Common.{◌≡◌, ℕ, zero, suc, ◌≤◌, List, [], ◌∷◌, ◌++◌, length, take, drop, Bool, true, false, ◌||◌, None, arith, refl, sym, ap, ◌∙◌}
use Rattle.std.proofs.lemmas.List.{take_at, take-append-drop}
use Rattle.std.proofs.lemmas.Slice.Eq.{bytes_eq-Decides}
use Rattle.std.specs.Bool.{MatchBool}
use Rattle.std.specs.Str.{bytes_eq}
use Rattle.std.specs.Str.Pattern.{FindsText, LacksTextAt, HasMatch}
use Rattle.table_rules.specs.Texts.{contains_text}

first_or : (a b : Bool) → a ≡ true → (a || b) ≡ true
first_or a b e = rw e refl

second_or : (a b : Bool) → b ≡ true → (a || b) ≡ true
second_or true b e = refl
second_or false b e = e

neither : (a b : Bool) → a ≡ false → b ≡ false → (a || b) ≡ false
neither a b p q = rw (p, q) refl

-- a text that begins with the part
begins : (part rest bs : List ℕ) → bs ≡ part ++ rest → bytes_eq (take (length part) bs) part ≡ true
begins part rest bs e =
    (bytes_eq-Decides (take (length part) bs) part).1 (ap (take (length part)) e ∙ take_at part rest (length part) refl)

-- where a part stands, the test finds it
found_at : (part rest bs : List ℕ) (i : ℕ) → drop i bs ≡ part ++ rest → contains_text part bs ≡ true
found_at part rest [] zero e = begins part rest [] e
found_at part rest [] (suc i) e = begins part rest [] e
found_at part rest (b ∷ bs) zero e = first_or _ _ (begins part rest (b ∷ bs) e)
found_at part rest (b ∷ bs) (suc i) e = second_or _ _ (found_at part rest bs i e)

false_by : (b : Bool) → (b ≡ true → ⊥) → b ≡ false
false_by true = λ no. absurd (no refl)
false_by false = λ _. refl

-- a text that does not begin with the part
begins_not : (part bs : List ℕ) → ((rest : List ℕ) → bs ≡ part ++ rest → ⊥) → bytes_eq (take (length part) bs) part ≡ false
begins_not part bs lacks =
    false_by _ (λ is. lacks (drop (length part) bs)
    (sym (take-append-drop (length part) bs) ∙ ap (λ (l : List ℕ). l ++ drop (length part) bs) ((bytes_eq-Decides (take (length part) bs) part).0 is)))

-- where a part stands nowhere, the test does not find it
not_found : (part bs : List ℕ) → ((i : ℕ) → i ≤ length bs → LacksTextAt part bs i) → contains_text part bs ≡ false
not_found part [] lacks = begins_not part [] (lacks 0 (omega arith))
not_found part (b ∷ bs) lacks =
    neither _ _ (begins_not part (b ∷ bs) (lacks 0 (omega arith))) (not_found part bs (λ i within. lacks (suc i) (omega arith)))

-- what `contains` answers
pub contains_text-contains : (part bs : List ℕ) (r : Bool) → MatchBool r (HasMatch (FindsText part) bs) (FindsText part bs None) → r ≡ contains_text part bs
contains_text-contains part bs true (i, j, found, _, _) = sym (found_at part (drop j bs) bs i found.1.split)
contains_text-contains part bs false lacks = sym (not_found part bs lacks)
