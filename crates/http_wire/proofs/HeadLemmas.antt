-- The values of a header name, one header more.
use Rattle.std.proofs.Common.{◌≡◌, ℕ, ◌+◌, ◌<◌, Bool, true, false, cond, List, [], ◌∷◌, ◌++◌, length, get_or, take, map, refl, sym, ◌∙◌, ap}
use Rattle.std.proofs.lemmas.List.{take_more, map-append}
use Rattle.http_wire.specs.Head.{Header, values_named, is_named}

pub values_named-nil : (name : List ℕ) → values_named name [] ≡ []
unfolding values_named
values_named-nil name = refl

values_named-push : (name : List ℕ) (hs : List Header) (h : Header) → values_named name (hs ++ h ∷ []) ≡ values_named name hs ++ cond (is_named h.0 name) (h.1 ∷ []) []
unfolding values_named
values_named-push name [] h = elim (is_named h.0 name) as (λ (b : Bool). cond b (h.1 ∷ []) [] ≡ [] ++ cond b (h.1 ∷ []) []) [ true ↦ refl | false ↦ refl ]
values_named-push name (g ∷ hs) h =
    elim (is_named g.0 name) as (λ (b : Bool). cond b (g.1 ∷ values_named name (hs ++ h ∷ [])) (values_named name (hs ++ h ∷ [])) ≡ cond b (g.1 ∷ values_named name hs) (values_named name hs) ++ cond (is_named h.0 name) (h.1 ∷ []) [])
    [ true ↦ ap (λ (vs : List (List ℕ)). g.1 ∷ vs) (values_named-push name hs h) | false ↦ values_named-push name hs h ]

pub values_named_more : {X : Type 0} (f : X → Header) (name : List ℕ) (xs : List X) (i : ℕ) (d : X) → i < length xs
    → values_named name (map f (take (i + 1) xs)) ≡ values_named name (map f (take i xs)) ++ cond (is_named (f (get_or xs i d)).0 name) ((f (get_or xs i d)).1 ∷ []) []
values_named_more f name xs i d h =
    ap (λ ys. values_named name (map f ys)) (take_more xs i d h) ∙ ap (values_named name) (map-append f (take i xs) (get_or xs i d ∷ []))
    ∙ values_named-push name (map f (take i xs)) (f (get_or xs i d))

-- the same as the loop meets it
pub values_more : {X : Type 0} (f : X → Header) (name : List ℕ) (xs : List X) (i : ℕ) (d : X) → i < length xs → (named : Bool) (n v : List ℕ)
    → named ≡ is_named n name → n ≡ (f (get_or xs i d)).0 → v ≡ (f (get_or xs i d)).1
    → values_named name (map f (take i xs)) ++ cond named (v ∷ []) [] ≡ values_named name (map f (take (i + 1) xs))
values_more f name xs i d within named n v is n_is v_is =
    let is' : named ≡ is_named (f (get_or xs i d)).0 name = is ∙ ap (λ (m : List ℕ). is_named m name) n_is in
    ap (λ (t : List (List ℕ)). values_named name (map f (take i xs)) ++ t)
    (ap (λ (b : Bool). cond b (v ∷ []) []) is' ∙ ap (λ (w : List ℕ). cond (is_named (f (get_or xs i d)).0 name) (w ∷ []) []) v_is)
    ∙ sym (values_named_more f name xs i d within)
