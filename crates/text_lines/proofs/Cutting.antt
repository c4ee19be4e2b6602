-- What `cut` and `ended_lines` give of a text that stands in parts.
use Rattle.std.proofs.Common.{◌≡◌, ℕ, ◌==◌, ◌≢◌, ◌<◌, ◌≤◌, true, false, length, arith, List, [], ◌∷◌, ◌++◌, refl, ap, ◌∙◌, append_assoc}
use Rattle.std.proofs.lemmas.Bool.{ne_eqb}
use Rattle.std.proofs.lemmas.List.Elements.{All-head, All-tail}
use Rattle.text_lines.specs.Lines.{cut, ended_lines, push_front, put_front, HasNoLf}
use Rattle.std.specs.Prelude.{if◌then◌else◌}

-- a byte that is not LF is not tested as one
not_lf : (b : ℕ) (l : List ℕ) → HasNoLf (b ∷ l) → (b == 10) ≡ false
not_lf b l h = ne_eqb b 10 (All-head (λ x. x ≢ 10) b l h)

-- a line that an LF ends, and what follows
pub cut-line : (l rest : List ℕ) → HasNoLf l → cut (l ++ 10 ∷ rest) ≡ l ∷ cut rest
unfolding cut
cut-line [] rest h = refl
cut-line (b ∷ l) rest h =
    rw (not_lf b l h) (rw (cut-line l rest (All-tail (λ x. x ≢ 10) b l h)) refl)

pub cut-line_end : (l rest : List ℕ) → HasNoLf l → cut ((l ++ 10 ∷ []) ++ rest) ≡ l ∷ cut rest
cut-line_end l rest h = ap cut (append_assoc l (10 ∷ []) rest) ∙ cut-line l rest h

pub ended-line : (l rest : List ℕ) → HasNoLf l → ended_lines (l ++ 10 ∷ rest) ≡ l ∷ ended_lines rest
unfolding ended_lines
ended-line [] rest h = refl
ended-line (b ∷ l) rest h =
    rw (not_lf b l h) (rw (ended-line l rest (All-tail (λ x. x ≢ 10) b l h)) refl)

pub ended-line_end : (l rest : List ℕ) → HasNoLf l → ended_lines ((l ++ 10 ∷ []) ++ rest) ≡ l ∷ ended_lines rest
ended-line_end l rest h = ap ended_lines (append_assoc l (10 ∷ []) rest) ∙ ended-line l rest h

-- the empty text has no lines
pub cut-nil : cut [] ≡ []
unfolding cut
cut-nil = refl

pub ended-nil : ended_lines [] ≡ []
unfolding ended_lines
ended-nil = refl

-- a text without LF is one line, unless it is empty, and no line that an LF ends
pub cut-last : (b : ℕ) (l : List ℕ) → HasNoLf (b ∷ l) → cut (b ∷ l) ≡ (b ∷ l) ∷ []
unfolding cut
cut-last b [] h = rw (not_lf b [] h) refl
cut-last b (c ∷ l) h = rw (not_lf b (c ∷ l) h) (rw (cut-last c l (All-tail (λ x. x ≢ 10) b (c ∷ l) h)) refl)

pub ended-last : (l : List ℕ) → HasNoLf l → ended_lines l ≡ []
unfolding ended_lines
ended-last [] h = refl
ended-last (b ∷ l) h = rw (not_lf b l h) (rw (ended-last l (All-tail (λ x. x ≢ 10) b l h)) refl)

-- lines with a byte at the front of the first, where there is a first
push-append : (b : ℕ) (xs ys : List (List ℕ)) → 0 < length xs → push_front b (xs ++ ys) ≡ push_front b xs ++ ys
push-append b [] ys h = absurd (omega arith)
push-append b (x ∷ xs) ys h = refl

put-append : (b : ℕ) (xs ys : List (List ℕ)) → 0 < length xs → put_front b (xs ++ ys) ≡ put_front b xs ++ ys
put-append b [] ys h = absurd (omega arith)
put-append b (x ∷ xs) ys h = refl

push-some : (b : ℕ) (xs : List (List ℕ)) → 0 < length (push_front b xs)
push-some b [] = omega arith
push-some b (x ∷ xs) = omega arith

put-some : (b : ℕ) (xs : List (List ℕ)) → 0 < length xs → 0 < length (put_front b xs)
put-some b [] h = absurd (omega arith)
put-some b (x ∷ xs) h = omega arith

cut-some : (t : List ℕ) → 0 < length (cut (t ++ 10 ∷ []))
unfolding cut
cut-some [] = omega arith
cut-some (b ∷ t) = elim (b == 10) as (λ v. 0 < length (if v then [] ∷ cut (t ++ 10 ∷ []) else push_front b (cut (t ++ 10 ∷ [])))) [ true ↦ omega arith | false ↦ push-some b (cut (t ++ 10 ∷ [])) ]

ended-some : (t : List ℕ) → 0 < length (ended_lines (t ++ 10 ∷ []))
unfolding ended_lines
ended-some [] = omega arith
ended-some (b ∷ t) = elim (b == 10) as (λ v. 0 < length (if v then [] ∷ ended_lines (t ++ 10 ∷ []) else put_front b (ended_lines (t ++ 10 ∷ [])))) [ true ↦ omega arith | false ↦ put-some b (ended_lines (t ++ 10 ∷ [])) (ended-some t) ]

-- a text up to and with an LF is cut by itself
pub cut-append : (t rest : List ℕ) → cut ((t ++ 10 ∷ []) ++ rest) ≡ cut (t ++ 10 ∷ []) ++ cut rest
unfolding cut
cut-append [] rest = refl
cut-append (b ∷ t) rest =
    elim (b == 10) as (λ v. (if v then [] ∷ cut ((t ++ 10 ∷ []) ++ rest) else push_front b (cut ((t ++ 10 ∷ []) ++ rest))) ≡ (if v then [] ∷ cut (t ++ 10 ∷ []) else push_front b (cut (t ++ 10 ∷ []))) ++ cut rest) [
      | true ↦ ap (λ ls. [] ∷ ls) (cut-append t rest)
      | false ↦ ap (push_front b) (cut-append t rest) ∙ push-append b (cut (t ++ 10 ∷ [])) (cut rest) (cut-some t)
    ]

pub ended-append : (t rest : List ℕ) → ended_lines ((t ++ 10 ∷ []) ++ rest) ≡ ended_lines (t ++ 10 ∷ []) ++ ended_lines rest
unfolding ended_lines
ended-append [] rest = refl
ended-append (b ∷ t) rest =
    elim (b == 10) as (λ v. (if v then [] ∷ ended_lines ((t ++ 10 ∷ []) ++ rest) else put_front b (ended_lines ((t ++ 10 ∷ []) ++ rest))) ≡ (if v then [] ∷ ended_lines (t ++ 10 ∷ []) else put_front b (ended_lines (t ++ 10 ∷ []))) ++ ended_lines rest) [
      | true ↦ ap (λ ls. [] ∷ ls) (ended-append t rest)
      | false ↦ ap (put_front b) (ended-append t rest) ∙ put-append b (ended_lines (t ++ 10 ∷ [])) (ended_lines rest) (ended-some t)
    ]

-- `cut` has the ended lines, and after them at most one more
pub record CutOf (ended whole : List (List ℕ)) : Type 0 where
  pub last : List (List ℕ)
  pub is : whole ≡ ended ++ last
  pub one : length last ≤ 1

at_most_one : (b : ℕ) (whole last : List (List ℕ)) → whole ≡ last → length last ≤ 1 → length (push_front b whole) ≤ 1
at_most_one b [] last e h = omega arith
at_most_one b (l ∷ ls) last e h = omega (arith, ap length e)

push-put : (b : ℕ) (ended whole : List (List ℕ)) → CutOf ended whole → CutOf (put_front b ended) (push_front b whole)
push-put b [] whole c = record { last = push_front b whole; is = refl; one = at_most_one b whole c.last c.is c.one }
push-put b (l ∷ ls) whole c = record { last = c.last; is = ap (push_front b) c.is; one = c.one }

pub cut-ended : (t : List ℕ) → CutOf (ended_lines t) (cut t)
unfolding cut ended_lines
cut-ended [] = record { last = []; is = refl; one = omega arith }
cut-ended (b ∷ t) =
    elim (b == 10) as (λ v. CutOf (if v then [] ∷ ended_lines t else put_front b (ended_lines t)) (if v then [] ∷ cut t else push_front b (cut t))) [
      | true ↦ (let c : CutOf (ended_lines t) (cut t) = cut-ended t in record { last = c.last; is = ap (λ ls. [] ∷ ls) c.is; one = c.one })
      | false ↦ push-put b (ended_lines t) (cut t) (cut-ended t)
    ]
