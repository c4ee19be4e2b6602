-- The first slash is sought byte by byte.
use Rattle.std.proofs.Common.{◌≡◌, ◌≢◌, ℕ, ◌+◌, ◌<◌, ◌≤◌, ◌==◌, List, length, get_or, drop, if◌then◌else◌, suc, refl, ap, ◌∙◌, drop-cons, add-one, eqb-true}
use Rattle.std.proofs.lemmas.List.{drop_all}
use Rattle.std.proofs.lemmas.Bool.{false_from_ne_true}
use Rattle.http_calls.specs.Targets.{to_slash}

next : (bs : List ℕ) (i : ℕ) → drop (suc i) bs ≡ drop (i + 1) bs
next bs i = rw add-one refl

at : (bs : List ℕ) (i : ℕ) → i < length bs → to_slash (drop i bs) ≡ (if get_or bs i 0 == 47 then 0 else to_slash (drop (i + 1) bs) + 1)
unfolding to_slash
at bs i h =
    ap to_slash (drop-cons bs i 0 h) ∙ ap (λ rest. if get_or bs i 0 == 47 then 0 else to_slash rest + 1) (next bs i)

pub to_slash-here : (bs : List ℕ) (i : ℕ) → i < length bs → get_or bs i 0 ≡ 47 → to_slash (drop i bs) ≡ 0
to_slash-here bs i h is = at bs i h ∙ ap (λ (b : ℕ). if b == 47 then 0 else to_slash (drop (i + 1) bs) + 1) is

pub to_slash-more : (bs : List ℕ) (i : ℕ) → i < length bs → get_or bs i 0 ≢ 47 → to_slash (drop i bs) ≡ to_slash (drop (i + 1) bs) + 1
to_slash-more bs i h is =
    at bs i h ∙ ap (λ b. if b then 0 else to_slash (drop (i + 1) bs) + 1) (false_from_ne_true _ (λ e. is (eqb-true _ _ e)))

pub to_slash-end : (bs : List ℕ) (i : ℕ) → length bs ≤ i → to_slash (drop i bs) ≡ 0
unfolding to_slash
to_slash-end bs i h = rw (drop_all i bs h) refl
