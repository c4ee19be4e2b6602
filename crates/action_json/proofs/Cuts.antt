-- The first line of a text, and the end of its lines.
use Rattle.std.proofs.Common.{◌≡◌, ◌≢◌, ℕ, ◌+◌, ◌-◌, ◌<◌, ◌≤◌, ◌==◌, List, [], ◌∷◌, ◌++◌, length, get_or, take, drop, true, Ok, sym, ap, ◌∙◌, subst, arith, add-one, drop-cons, eq-eqb, length-drop}
use Rattle.std.proofs.lemmas.List.{take-append-drop, get_or-take, take_all, length-take-le}
use Rattle.std.proofs.lemmas.List.Elements.{All-from_get_or}
use Rattle.text_lines.specs.Lines.{cut, HasNoLf}
use Rattle.text_lines.proofs.Cutting.{cut-line, cut-last, cut-nil}
use Rattle.action_types.specs.declared.actions.Action.{Action}
use Rattle.action_json.specs.Commit.{outcome_from}

-- a byte that was not found before place n is not there
pub no_lf_before : (text : List ℕ) (n : ℕ) → n ≤ length text → ((k : ℕ) → k < n → (get_or text k 0 == 10) ≡ true → ⊥) → HasNoLf (take n text)
no_lf_before text n within h =
    All-from_get_or (λ b. b ≢ 10) (take n text) 0 (λ i below.
    let low : i < n = omega (arith, length-take-le n text within) in
    λ e. h i low (eq-eqb (get_or text i 0) 10 (sym (get_or-take n text i 0 low) ∙ e)))

-- a text up to its first LF, and what follows that LF
pub cut_at : (text : List ℕ) (n : ℕ) → n < length text → get_or text n 0 ≡ 10 → HasNoLf (take n text)
    → cut text ≡ take n text ∷ cut (take (length text - (n + 1)) (drop (n + 1) text))
cut_at text n h lf none =
    let whole : take n text ++ 10 ∷ drop (n + 1) text ≡ text =
    ap (λ l. take n text ++ l) (ap (λ b. b ∷ drop (n + 1) text) (sym lf) ∙ (rw add-one (sym (drop-cons text n 0 h)))) ∙ take-append-drop n text in
    let rest : take (length text - (n + 1)) (drop (n + 1) text) ≡ drop (n + 1) text = take_all (length text - (n + 1)) (drop (n + 1) text) (omega (arith, length-drop (n + 1) text)) in
    ap cut (sym whole) ∙ cut-line (take n text) (drop (n + 1) text) none ∙ ap (λ l. take n text ∷ cut l) (sym rest)

-- a text with no LF that is not empty
pub cut_whole : (text : List ℕ) → 0 < length text → HasNoLf (take (length text) text) → cut text ≡ text ∷ cut []
cut_whole [] some none = absurd (omega arith)
cut_whole (b ∷ l) some none =
    let all : take (length (b ∷ l)) (b ∷ l) ≡ b ∷ l = take_all (length (b ∷ l)) (b ∷ l) (omega arith) in
    cut-last b l (subst HasNoLf all none) ∙ ap (λ ls. (b ∷ l) ∷ ls) (sym cut-nil)

-- where nothing is left, the outcome is what was found
pub outcome_from-empty : (n : ℕ) (done : List Action) (rest : List ℕ) → length rest ≡ 0 → outcome_from n done (cut rest) ≡ Ok done
unfolding outcome_from
outcome_from-empty n done [] none = ap (outcome_from n done) cut-nil
outcome_from-empty n done (b ∷ l) none = absurd (omega arith)
