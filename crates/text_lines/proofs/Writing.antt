-- The lines of a text against the text: what is cut is what was written.
use Rattle.std.proofs.Common.{◌≡◌, ◌⊎◌, inl, inr, ℕ, ◌==◌, ◌≢◌, true, false, List, [], ◌∷◌, ◌++◌, length, refl, ap, ◌∙◌, All, flat_map, arith, length-append}
use Rattle.std.specs.Prelude.{if◌then◌else◌}
use Rattle.std.proofs.lemmas.Bool.{eqb-false, eqb-true}
use Rattle.std.proofs.lemmas.List.Elements.{All-head, All-tail, All-nil, All-cons}
use Rattle.text_lines.specs.Lines.{cut, ended_lines, put_front, Ends, push_front, HasNoLf, with_lf}
use Rattle.text_lines.proofs.Cutting.{cut-line_end, cut-nil}

push-no_lf : (b : ℕ) (ls : List (List ℕ)) → b ≢ 10 → All HasNoLf ls → All HasNoLf (push_front b ls)
push-no_lf b [] n h = All-cons HasNoLf (b ∷ []) [] (All-cons (λ x. x ≢ 10) b [] n (All-nil (λ x. x ≢ 10))) h
push-no_lf b (l ∷ ls) n h =
    All-cons HasNoLf (b ∷ l) ls (All-cons (λ x. x ≢ 10) b l n (All-head HasNoLf l ls h)) (All-tail HasNoLf l ls h)

pub cut-no_lf : (text : List ℕ) → All HasNoLf (cut text)
unfolding cut
cut-no_lf [] = All-nil HasNoLf
cut-no_lf (b ∷ bs) =
    elim (b == 10) as (λ v. (b == 10) ≡ v → All HasNoLf (if v then [] ∷ cut bs else push_front b (cut bs))) [
      | true ↦ λ e. All-cons HasNoLf [] (cut bs) (All-nil (λ x. x ≢ 10)) (cut-no_lf bs)
      | false ↦ λ e. push-no_lf b (cut bs) (eqb-false b 10 e) (cut-no_lf bs)
    ] refl

abbrev Makes : List (List ℕ) → List ℕ → Type 0
Makes ls text = (flat_map with_lf ls ≡ text) ⊎ (flat_map with_lf ls ≡ text ++ 10 ∷ [])

not_ended : (t : List ℕ) → [] ≡ t ++ 10 ∷ [] → ⊥
not_ended t e = omega (arith, ap length e, length-append t (10 ∷ []))

line-makes : (b : ℕ) (t : List ℕ) (ls : List (List ℕ)) → b ≡ 10 → Makes ls t → Makes ([] ∷ ls) (b ∷ t)
line-makes b t ls e m = elim m [ inl h ↦ inl (cc) | inr h ↦ inr (cc) ]

push-makes : (b : ℕ) (ls : List (List ℕ)) (t : List ℕ) → Makes ls t → Makes (push_front b ls) (b ∷ t)
push-makes b [] t m = elim m [ inl e ↦ inr (ap (λ s. b ∷ (s ++ 10 ∷ [])) e) | inr e ↦ absurd (not_ended t e) ]
push-makes b (l ∷ ls) t m = elim m [ inl e ↦ inl (ap (λ s. b ∷ s) e) | inr e ↦ inr (ap (λ s. b ∷ s) e) ]

pub cut-makes : (text : List ℕ) → (flat_map with_lf (cut text) ≡ text) ⊎ (flat_map with_lf (cut text) ≡ text ++ 10 ∷ [])
unfolding cut
cut-makes [] = inl refl
cut-makes (b ∷ bs) =
    elim (b == 10) as (λ v. (b == 10) ≡ v → Makes (if v then [] ∷ cut bs else push_front b (cut bs)) (b ∷ bs)) [
      | true ↦ λ e. line-makes b bs (cut bs) (eqb-true b 10 e) (cut-makes bs)
      | false ↦ λ e. push-makes b (cut bs) bs (cut-makes bs)
    ] refl

pub cut-written : (lines : List (List ℕ)) → All HasNoLf lines → cut (flat_map with_lf lines) ≡ lines
cut-written [] h = cut-nil
cut-written (l ∷ ls) h =
    cut-line_end l (flat_map with_lf ls) (All-head HasNoLf l ls h) ∙ ap (λ xs. l ∷ xs) (cut-written ls (All-tail HasNoLf l ls h))

put-ends : (b : ℕ) (ls : List (List ℕ)) (t : List ℕ) → b ≢ 10 → Ends ls t → Ends (put_front b ls) (b ∷ t)
put-ends b [] t n e =
    record { rest = b ∷ e.rest; is = ap (λ s. b ∷ s) e.is; no_lf = All-cons (λ x. x ≢ 10) b e.rest n e.no_lf }
put-ends b (l ∷ ls) t n e = record { rest = e.rest; is = ap (λ s. b ∷ s) e.is; no_lf = e.no_lf }

line-ends : (b : ℕ) (ls : List (List ℕ)) (t : List ℕ) → b ≡ 10 → Ends ls t → Ends ([] ∷ ls) (b ∷ t)
line-ends b ls t q e =
    record { rest = e.rest; is = ap (λ s. b ∷ s) e.is ∙ ap (λ x. x ∷ (flat_map with_lf ls ++ e.rest)) q; no_lf = e.no_lf }

pub ended-makes : (text : List ℕ) → Ends (ended_lines text) text
unfolding ended_lines
ended-makes [] = record { rest = []; is = refl; no_lf = All-nil (λ x. x ≢ 10) }
ended-makes (b ∷ bs) =
    elim (b == 10) as (λ v. (b == 10) ≡ v → Ends (if v then [] ∷ ended_lines bs else put_front b (ended_lines bs)) (b ∷ bs)) [
      | true ↦ λ e. line-ends b (ended_lines bs) bs (eqb-true b 10 e) (ended-makes bs)
      | false ↦ λ e. put-ends b (ended_lines bs) bs (eqb-false b 10 e) (ended-makes bs)
    ] refl
