-- Laws of what is told.
use Rattle.std.proofs.Common.{◌≡◌, ◌≤◌, ◌+◌, ◌-◌, ℕ, Bool, true, false, List, [], ◌++◌, length, take, drop, refl, ap, sym, ◌∙◌, append_assoc, append-nil, arith, length-drop}
use Rattle.std.specs.Prelude.{IsTrue}
use Rattle.std.proofs.lemmas.List.{take_rest}
use Rattle.std.proofs.Math.Seq.{take-add}
use Rattle.lake_io.specs.Told.{told, Takes, Writes}

pub told-append : (tells : Bool) (xs ys : List ℕ) → told tells (xs ++ ys) ≡ told tells xs ++ told tells ys
told-append true xs ys = refl
told-append false xs ys = refl

pub told-all : (tells : Bool) (xs : List ℕ) → IsTrue tells → told tells xs ≡ xs
told-all true xs h = refl
told-all false xs h = cc

pub told-nil : (tells : Bool) → told tells [] ≡ []
told-nil true = refl
told-nil false = refl

-- nothing was taken
pub takes_none : (tells : Bool) (taken left : List ℕ) → Takes tells taken left [] taken left
takes_none true taken left = record { left_is = refl; taken_is = sym (append-nil taken) }
takes_none false taken left = record { left_is = refl; taken_is = sym (append-nil taken) }

-- two takes in a row
pub takes_both : (tells : Bool) (t l xs t' l' ys t'' l'' : List ℕ) → Takes tells t l xs t' l' → Takes tells t' l' ys t'' l'' → Takes tells t l (xs ++ ys) t'' l''
takes_both tells t l xs t' l' ys t'' l'' a b = record {
  left_is = a.left_is ∙ (ap (λ zs. told tells xs ++ zs) b.left_is ∙ (sym (append_assoc (told tells xs) (told tells ys) l'') ∙ ap (λ zs. zs ++ l'') (sym (told-append tells xs ys))));
  taken_is = b.taken_is ∙ (ap (λ zs. zs ++ told tells ys) a.taken_is ∙ (append_assoc t (told tells xs) (told tells ys) ∙ ap (λ zs. t ++ zs) (sym (told-append tells xs ys))));
}

-- a write of what follows the first bytes that were written
pub writes_more : (tells : Bool) (before bytes written written' : List ℕ) (done n : ℕ) → written ≡ before ++ told tells (take done bytes) → Writes tells written (take (length bytes - done) (drop done bytes)) n written' → written' ≡ before ++ told tells (take (done + n) bytes)
writes_more tells before bytes written written' done n e w =
    let rest : take (length bytes - done) (drop done bytes) ≡ drop done bytes = take_rest bytes done in
    let all : take done bytes ++ take n (take (length bytes - done) (drop done bytes)) ≡ take (done + n) bytes =
    ap (λ xs. take done bytes ++ take n xs) rest ∙ sym (take-add done n bytes)
    in
    w.is ∙ (ap (λ xs. xs ++ told tells (take n (take (length bytes - done) (drop done bytes)))) e ∙ (append_assoc before (told tells (take done bytes)) (told tells (take n (take (length bytes - done) (drop done bytes)))) ∙ ap (λ xs. before ++ xs) (sym (told-append tells (take done bytes) (take n (take (length bytes - done) (drop done bytes)))) ∙ ap (told tells) all)))

pub writes_room : (tells : Bool) (bytes written written' : List ℕ) (done n : ℕ) → done ≤ length bytes → Writes tells written (take (length bytes - done) (drop done bytes)) n written' → done + n ≤ length bytes
writes_room tells bytes written written' done n h w =
    omega (arith, w.room, ap length (take_rest bytes done), length-drop done bytes)
