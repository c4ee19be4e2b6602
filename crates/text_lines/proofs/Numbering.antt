-- What `said_from` and `numbered_from` give.
use Rattle.std.proofs.Common.{◌≡◌, ℕ, ◌+◌, true, false, not, filter, List, [], ◌∷◌, ◌++◌, length, refl, ap, sym, ◌∙◌, add-zero, arith}
use Rattle.std.specs.Prelude.{if◌then◌else◌}
use Rattle.text_lines.specs.Lines.{numbered, numbered_from, said_from, is_blank}

pub said-nil : (n : ℕ) → said_from n [] ≡ []
unfolding said_from
said-nil n = refl

pub said-blank : (n : ℕ) (l : List ℕ) (ls : List (List ℕ)) → is_blank l ≡ true → said_from n (l ∷ ls) ≡ said_from (n + 1) ls
unfolding said_from
said-blank n l ls h = rw h refl

pub said-line : (n : ℕ) (l : List ℕ) (ls : List (List ℕ)) → is_blank l ≡ false → said_from n (l ∷ ls) ≡ numbered n l ∷ said_from (n + 1) ls
unfolding said_from
said-line n l ls h = rw h refl

pub numbered-nil : (n : ℕ) → numbered_from n [] ≡ []
unfolding numbered_from
numbered-nil n = refl

pub numbered-line : (n : ℕ) (l : List ℕ) (ls : List (List ℕ)) → numbered_from n (l ∷ ls) ≡ numbered n l ∷ numbered_from (n + 1) ls
unfolding numbered_from
numbered-line n l ls = refl

-- the lines said are those of the numbered lines that are not blank
pub said-numbered : (n : ℕ) (ls : List (List ℕ)) → said_from n ls ≡ filter (λ x. not (is_blank x.text)) (numbered_from n ls)
unfolding said_from numbered_from
said-numbered n [] = refl
said-numbered n (l ∷ ls) =
    elim (is_blank l) as (λ v. (if v then said_from (n + 1) ls else numbered n l ∷ said_from (n + 1) ls) ≡ (if not v then numbered n l ∷ filter (λ x. not (is_blank x.text)) (numbered_from (n + 1) ls) else filter (λ x. not (is_blank x.text)) (numbered_from (n + 1) ls))) [
      | true ↦ said-numbered (n + 1) ls
      | false ↦ ap (λ xs. numbered n l ∷ xs) (said-numbered (n + 1) ls)
    ]

-- what the first lines say, and then the rest
pub said-append : (n : ℕ) (ls ms : List (List ℕ)) → said_from n (ls ++ ms) ≡ said_from n ls ++ said_from (n + length ls) ms
unfolding said_from
said-append n [] ms = ap (λ k. said_from k ms) (sym (add-zero n))
said-append n (l ∷ ls) ms =
    let e : said_from (n + 1 + length ls) ms ≡ said_from (n + length (l ∷ ls)) ms = ap (λ k. said_from k ms) (omega arith) in
    elim (is_blank l) as (λ v. (if v then said_from (n + 1) (ls ++ ms) else numbered n l ∷ said_from (n + 1) (ls ++ ms)) ≡ (if v then said_from (n + 1) ls else numbered n l ∷ said_from (n + 1) ls) ++ said_from (n + length (l ∷ ls)) ms) [
      | true ↦ said-append (n + 1) ls ms ∙ ap (λ xs. said_from (n + 1) ls ++ xs) e
      | false ↦ ap (λ xs. numbered n l ∷ xs) (said-append (n + 1) ls ms ∙ ap (λ xs. said_from (n + 1) ls ++ xs) e)
    ]

pub numbered-append : (n : ℕ) (ls ms : List (List ℕ)) → numbered_from n (ls ++ ms) ≡ numbered_from n ls ++ numbered_from (n + length ls) ms
unfolding numbered_from
numbered-append n [] ms = ap (λ k. numbered_from k ms) (sym (add-zero n))
numbered-append n (l ∷ ls) ms =
    let e : numbered_from (n + 1 + length ls) ms ≡ numbered_from (n + length (l ∷ ls)) ms = ap (λ k. numbered_from k ms) (omega arith) in
    ap (λ xs. numbered n l ∷ xs) (numbered-append (n + 1) ls ms ∙ ap (λ xs. numbered_from (n + 1) ls ++ xs) e)
