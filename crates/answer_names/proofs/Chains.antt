-- From answers one after another, each with what it owes to its moment, to what they say together.
use Rattle.std.proofs.Common.{◌≡◌, ◌≤◌, ◌+◌, ℕ, Bool, List, [], ◌∷◌, ◌++◌, length, sym, ◌∙◌, ap, subst, length-append, append_assoc, append-nil, arith, Option, Some, None, unwrap_or}
use Rattle.std.specs.Prelude.{All, IfSome}
use Rattle.std.proofs.lemmas.List.Elements.{All-nil, All-cons}
use Rattle.table_model.specs.Knowledge.{Knowledge, IsGrown, StartsWith}
use Rattle.table_model.proofs.Growing.{grows_refl, grows_trans}
use Rattle.answer_names.specs.Names.{Names, Answer, names_of}
use Rattle.answer_names.specs.Gaining.{known_length, times, one_for, IsFront, HasOneVersion}
use Rattle.answer_names.specs.Chain.{Follows, Chain}
use Rattle.answer_names.specs.Together.{versions_in, total, IsFrom, FrontsRise, FrontsWithin, Together}

pub length_longer : {A : Type 0} (front longer : List A) → StartsWith longer front → length front ≤ length longer
length_longer front longer s = omega (arith, ap length s.is, length-append front s.rest)

pub length_grown : (k m : Knowledge) → IsGrown k m → length k.seen ≤ length m.seen
length_grown k m g = length_longer k.seen m.seen g.seen

pub known_grown : (k m : Knowledge) → IsGrown k m → known_length k ≤ known_length m
known_grown k m g = omega (arith, length_grown k m g, g.told)

pub chain_grows : (tells : Bool) (k m : Knowledge) (xs : List Answer) → Chain tells k xs m → IsGrown k m
chain_grows tells k m [] r = subst (λ n. IsGrown k n) (sym r) (grows_refl k)
chain_grows tells k m (x ∷ xs) r = grows_trans k x.after m r.0.grows (chain_grows tells x.after m xs r.1)

-- ---- fronts

from_front : (low : ℕ) (a : Names) (k m : Knowledge) (o : Option ℕ) → low ≤ known_length k → IfSome o (λ n. IsFront a n k m) → IfSome o (λ n. low + length a.versions ≤ n)
from_front low a k m None h f = tt
from_front low a k m (Some n) h f = omega (arith, h, f.from)

from_base : (low : ℕ) (k : Knowledge) (o : Option ℕ) → low ≤ known_length k → IfSome o (λ b. known_length k ≤ b + 1) → IfSome o (λ b. low ≤ b + 1)
from_base low k None h f = tt
from_base low k (Some b) h f = omega (arith, h, f)

next_low : (low : ℕ) (a : Names) (k m : Knowledge) (o : Option ℕ) → IsGrown k m → low ≤ known_length k → IfSome o (λ n. IsFront a n k m) → unwrap_or o low ≤ known_length m
next_low low a k m None g h f = omega (arith, known_grown k m g, h)
next_low low a k m (Some n) g h f = omega (arith, f.to)

chain_rise : (tells : Bool) (low : ℕ) (k m : Knowledge) (xs : List Answer) → low ≤ known_length k → Chain tells k xs m → FrontsRise low (names_of xs)
chain_rise tells low k m [] h r = tt
chain_rise tells low k m (x ∷ xs) h r =
    let g = r.0.gains in
    let a = x.names in
    let first : IsFrom low a = record { front = from_front low a k x.after a.front h g.front; base = from_base low k a.base h g.base } in
    (first, chain_rise tells (unwrap_or a.front low) x.after m xs (next_low low a k x.after a.front r.0.grows h g.front) r.1)

within_front : (a : Names) (k m : Knowledge) (o : Option ℕ) (high : ℕ) → length m.seen ≤ high → IfSome o (λ n. IsFront a n k m) → IfSome o (λ n. n ≤ high)
within_front a k m None high h f = tt
within_front a k m (Some n) high h f = omega (arith, h, f.to)

chain_within : (tells : Bool) (k m : Knowledge) (xs : List Answer) (high : ℕ) → length m.seen ≤ high → Chain tells k xs m → FrontsWithin high (names_of xs)
chain_within tells k m [] high h r = All-nil (λ a. IfSome a.front (λ n. n ≤ high))
chain_within tells k m (x ∷ xs) high h r =
    All-cons (λ a. IfSome a.front (λ n. n ≤ high)) x.names (names_of xs)
    (within_front x.names k x.after x.names.front high (omega (arith, h, length_grown x.after m (chain_grows tells x.after m xs r.1))) r.0.gains.front)
    (chain_within tells x.after m xs high h r.1)

-- ---- what is gained

chain_mine : (tells : Bool) (k m : Knowledge) (xs : List Answer) → Chain tells k xs m → m.mine ≡ k.mine ++ versions_in (names_of xs)
chain_mine tells k m [] r = ap (λ (n : Knowledge). n.mine) r ∙ sym (append-nil k.mine)
chain_mine tells k m (x ∷ xs) r =
    chain_mine tells x.after m xs r.1 ∙ ap (λ vs. vs ++ versions_in (names_of xs)) r.0.gains.mine ∙ append_assoc k.mine x.names.versions (versions_in (names_of xs))

chain_one : (tells : Bool) (k m : Knowledge) (xs : List Answer) → Chain tells k xs m → All HasOneVersion (names_of xs)
chain_one tells k m [] r = All-nil HasOneVersion
chain_one tells k m (x ∷ xs) r = All-cons HasOneVersion x.names (names_of xs) r.0.gains.one (chain_one tells x.after m xs r.1)

pub chain_total : (tells : Bool) (part : Knowledge → ℕ) (worth : Names → ℕ) → ((k : Knowledge) (x : Answer) → Follows tells k x → part k + worth x.names ≤ part x.after)
    → (k m : Knowledge) (xs : List Answer) → Chain tells k xs m → part k + total worth (names_of xs) ≤ part m
chain_total tells part worth one k m [] r = omega (arith, ap part r)
chain_total tells part worth one k m (x ∷ xs) r = omega (arith, one k x r.0, chain_total tells part worth one x.after m xs r.1)

-- a count that rises with each answer by no more than this of its names
chain_most : (tells : Bool) (part : Knowledge → ℕ) (worth : Names → ℕ) → ((k : Knowledge) (x : Answer) → Follows tells k x → part x.after ≤ part k + worth x.names)
    → (k m : Knowledge) (xs : List Answer) → Chain tells k xs m → part m ≤ part k + total worth (names_of xs)
chain_most tells part worth one k m [] r = omega (arith, ap part r)
chain_most tells part worth one k m (x ∷ xs) r = omega (arith, one k x r.0, chain_most tells part worth one x.after m xs r.1)

pub chain_together : (tells : Bool) (k m : Knowledge) (xs : List Answer) → Chain tells k xs m → Together tells k (names_of xs) m
chain_together tells k m xs r = record {
  grows = chain_grows tells k m xs r;
  rise = chain_rise tells (known_length k) k m xs (omega arith) r;
  within = chain_within tells k m xs (length m.seen) (omega arith) r;
  mine = chain_mine tells k m xs r;
  one = chain_one tells k m xs r;
  asked = chain_total tells (λ n. n.asks) (λ a. one_for a.front) (λ k x h. h.gains.asked) k m xs r;
  faults = λ t. chain_total tells (λ n. n.faults) (λ a. length a.spots) (λ k x h. h.gains.faults t) k m xs r;
  no_other = chain_most tells (λ n. n.faults) (λ a. length a.spots) (λ k x h. h.gains.no_other) k m xs r;
  failed = λ t test. chain_total tells (λ n. times test n.failed) (λ a. times test a.spots) (λ k x h. h.gains.failed t test) k m xs r;
  takens = λ test. chain_total tells (λ n. times test n.takens) (λ a. times test a.takens) (λ k x h. h.gains.takens test) k m xs r;
  tries = chain_total tells (λ n. length n.tries) (λ a. a.tries) (λ k x h. h.gains.tries) k m xs r;
}
