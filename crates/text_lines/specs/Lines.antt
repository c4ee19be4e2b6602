-- The lines of a text. A text is a list of bytes, and LF, the byte 10, ends a line.
--     cut text                the texts between the LFs; a last LF may be missing
--     ended_lines text        the lines that an LF ends: what stands after the last LF is left out
--     with_lf line            the line and the LF that ends it
--     HasNoLf line            no byte of it is LF
--     is_blank line           it is JSON whitespace alone (RFC 8259, section 2)
--     numbered_from n lines   each line with its number, where the first has n
--     said_from n lines       of the numbered lines those that are not blank
use Rattle.std.specs.Prelude.{◌≡◌, flat_map, ℕ, ◌+◌, ◌==◌, ◌||◌, ◌≢◌, Bool, List, [], ◌∷◌, ◌++◌, if◌then◌else◌, All}
use Rattle.std.specs.List.{list_all}

-- the lines with one byte more at the front of the first, which is a new line where there is none
abbrev pub push_front : ℕ → List (List ℕ) → List (List ℕ)
push_front b [] = (b ∷ []) ∷ []
push_front b (l ∷ ls) = (b ∷ l) ∷ ls

unfoldable pub cut : List ℕ → List (List ℕ)
cut [] = []
cut (b ∷ bs) = if b == 10 then [] ∷ cut bs else push_front b (cut bs)

-- the same, but a byte that no LF follows stands in no line
abbrev pub put_front : ℕ → List (List ℕ) → List (List ℕ)
put_front b [] = []
put_front b (l ∷ ls) = (b ∷ l) ∷ ls

unfoldable pub ended_lines : List ℕ → List (List ℕ)
ended_lines [] = []
ended_lines (b ∷ bs) = if b == 10 then [] ∷ ended_lines bs else put_front b (ended_lines bs)

abbrev pub HasNoLf : List ℕ → Type 0
HasNoLf line = All (λ b. b ≢ 10) line

-- space, tab, LF and CR
abbrev pub is_space : ℕ → Bool
is_space b = b == 32 || b == 9 || b == 10 || b == 13

abbrev pub is_blank : List ℕ → Bool
is_blank line = list_all is_space line

-- a line and its number in its text, from 1
pub record Numbered : Type 0 where
  pub at : ℕ
  pub text : List ℕ

abbrev pub numbered : ℕ → List ℕ → Numbered
numbered n l = record { at = n; text = l }

unfoldable pub numbered_from : ℕ → List (List ℕ) → List Numbered
numbered_from n [] = []
numbered_from n (l ∷ ls) = numbered n l ∷ numbered_from (n + 1) ls

unfoldable pub said_from : ℕ → List (List ℕ) → List Numbered
said_from n [] = []
said_from n (l ∷ ls) = if is_blank l then said_from (n + 1) ls else numbered n l ∷ said_from (n + 1) ls

-- a line and the LF that ends it
abbrev pub with_lf : List ℕ → List ℕ
with_lf line = line ++ 10 ∷ []

-- the text is these lines, each with its LF, and a rest in which there is no LF
pub record Ends (lines : List (List ℕ)) (text : List ℕ) : Type 0 where
  pub rest : List ℕ
  pub is : text ≡ flat_map with_lf lines ++ rest
  pub no_lf : HasNoLf rest
