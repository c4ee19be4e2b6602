-- A response that is written in two parts.
use Rattle.std.proofs.Common.{◌≡◌, ℕ, Bool, List, ◌++◌, Result, Ok, Err, sym, ◌∙◌, ap, arith, append_assoc, length-append}
use Rattle.std.specs.Result.{MatchResult}
use Rattle.lake_io.specs.Told.{WritesSome, told}
use Rattle.http_wire.proofs.Reading.{told_append}

-- what is appended piece by piece
pub three : (old a b c x y z : List ℕ) → x ≡ old ++ a → y ≡ x ++ b → z ≡ y ++ c → z ≡ old ++ ((a ++ b) ++ c)
three old a b c x y z p q r =
    r ∙ ap (λ (t : List ℕ). t ++ c) (q ∙ ap (λ (t : List ℕ). t ++ b) p ∙ append_assoc old a b) ∙ append_assoc old (a ++ b) c

pub four : (old a b c d x y z w : List ℕ) → x ≡ old ++ a → y ≡ x ++ b → z ≡ y ++ c → w ≡ z ++ d → w ≡ old ++ (((a ++ b) ++ c) ++ d)
four old a b c d x y z w p q r s =
    s ∙ ap (λ (t : List ℕ). t ++ d) (three old a b c x y z p q r) ∙ append_assoc old ((a ++ b) ++ c) d

-- the first part failed
pub puts_first : (tells : Bool) (w head body w' : List ℕ) → WritesSome tells w head w' → WritesSome tells w (head ++ body) w'
puts_first tells w head body w' some =
    record {
      part = some.part;
      lacking = some.lacking ++ body;
      some = omega (arith, some.some, length-append some.lacking body);
      all = ap (λ (t : List ℕ). t ++ body) some.all ∙ append_assoc some.part some.lacking body;
      is = some.is;
    }

both : (tells : Bool) (w head body w' w'' : List ℕ) → w' ≡ w ++ told tells head → w'' ≡ w' ++ told tells body → w'' ≡ w ++ told tells (head ++ body)
both tells w head body w' w'' p q =
    q ∙ ap (λ (t : List ℕ). t ++ told tells body) p ∙ append_assoc w (told tells head) (told tells body)
    ∙ ap (λ (t : List ℕ). w ++ t) (sym (told_append tells head body))

-- the first part was written
pub puts_second : {X E : Type 0} (tells : Bool) (w head body w' w'' : List ℕ) (r : Result X E) → w' ≡ w ++ told tells head
    → MatchResult r (λ _. w'' ≡ w' ++ told tells body) (λ _. WritesSome tells w' body w'')
    → MatchResult r (λ _. w'' ≡ w ++ told tells (head ++ body)) (λ _. WritesSome tells w (head ++ body) w'')
puts_second tells w head body w' w'' (Ok x) p q = both tells w head body w' w'' p q
puts_second tells w head body w' w'' (Err e) p q =
    record {
      part = head ++ q.part;
      lacking = q.lacking;
      some = q.some;
      all = ap (λ (t : List ℕ). head ++ t) q.all ∙ sym (append_assoc head q.part q.lacking);
      is = both tells w head q.part w' w'' p q.is;
    }
