-- What the answers of a search tell of the times that agree with them.
use Rattle.std.proofs.Common.{◌≡◌, ℕ, ◌+◌, ◌-◌, ◌/◌, ◌^◌, ◌<◌, ◌≤◌, ⊎_elim, arith, List, [], ◌∷◌, ◌++◌, length, get_or, Option, Some, None, refl, sym, subst}
use Rattle.std.specs.Prelude.{ℤ, ◌≤ℤ◌, ◌<ℤ◌, IfSome, IsNone, nat_lt}
use Rattle.std.specs.List.{All}
use Rattle.std.specs.Option.{MatchOption, option_map}
use Rattle.std.proofs.lemmas.Int.{ints}
use Rattle.std.proofs.lemmas.List.Elements.{All-cons, All-nil, All-head, All-tail, All-append}
use Rattle.std.proofs.lemmas.Option.{slice_get_within, get_or_from_slice_get, cond_some}
use Rattle.std.proofs.lemmas.Bool.{cases_lt}
use Rattle.std.proofs.lemmas.Bool.Decides.{nat_tests}
use Rattle.commit_timestamps.specs.Times.{IsVersionAt, IsRising}
use Rattle.commit_timestamps.specs.Search.{Search, Agrees, HasTime}
use Rattle.commit_timestamps.specs.Digits.{binary_digits}
use Rattle.commit_timestamps.specs.View.{low, high, middle, told, search_of, IsNarrowed}
use Rattle.commit_timestamps.specs.declared.halving.Answer.{Answer}
use Rattle.commit_timestamps.specs.declared.halving.Halving.TheInside.{Inside}
use Rattle.commit_timestamps.proofs.DigitLemmas.{binary_digits_half}

-- the times have the answer
abbrev Has : List ℤ → ℕ × ℤ → Type 0
Has times a = HasTime times a.0 a.1

-- from a version after the time on, every version is after it
after_on : (times : List ℤ) (t : ℤ) (x : Answer) → IsRising times → HasTime times x.version x.time → t <ℤ x.time
    → (w : ℕ) (d : ℤ) → x.version ≤ w → w < length times → t <ℤ get_or times w d
after_on times t x rising has after w d from within =
    let here : get_or times x.version d ≡ x.time = get_or_from_slice_get times x.version x.time d has in
    ⊎_elim
    (λ (more : x.version < w). let rise : get_or times x.version d <ℤ get_or times w d = rising x.version w d more within in
    let rise' : x.time <ℤ get_or times w d = subst (λ (y : ℤ). y <ℤ get_or times w d) here rise in omega (arith, ints))
    (λ (le : w ≤ x.version). let same : x.version ≡ w = omega arith in
    subst (λ (k : ℕ). t <ℤ get_or times k d) same (subst (λ (y : ℤ). t <ℤ y) (sym here) after))
    (cases_lt x.version w)

-- of the answers before and after, those after
told_after : (times : List ℤ) (before : Option Answer) (rest : List (ℕ × ℤ)) → All (Has times) (told before ++ rest) → All (Has times) rest
told_after times None rest h = h
told_after times (Some b) rest h = All-tail (Has times) (b.version, b.time) rest h

-- and those before
told_before : (times : List ℤ) (before : Option Answer) (rest : List (ℕ × ℤ)) → All (Has times) (told before ++ rest) → All (Has times) (told before)
told_before times None rest h = All-nil (Has times)
told_before times (Some b) rest h = All-cons (Has times) (b.version, b.time) [] (All-head (Has times) (b.version, b.time) rest h) (All-nil (Has times))

-- where no version is left between the answers, each version from the first on that may be after the time is after it
closed : (times : List ℤ) (t : ℤ) (after : Option Answer) (l : ℕ) → IsRising times → All (Has times) (told after)
    → MatchOption after (Unit {0}) (λ b. t <ℤ b.time) → high (length times) after ≤ l
    → (w : ℕ) (d : ℤ) → l ≤ w → w < length times → t <ℤ get_or times w d
closed times t None l rising all is_after le w d from within = absurd (omega arith)
closed times t (Some x) l rising all is_after le w d from within =
    after_on times t x rising (All-head (Has times) (x.version, x.time) [] all) is_after w d (omega arith) within

found : (times : List ℤ) (t : ℤ) (before after : Option Answer) → IsRising times → All (Has times) (told before ++ told after)
    → MatchOption before (Unit {0}) (λ b. b.time ≤ℤ t) → MatchOption after (Unit {0}) (λ b. t <ℤ b.time)
    → high (length times) after ≤ low before → IsVersionAt times t (option_map (λ b. b.version) before)
found times t None after rising all is_before is_after le =
    λ w d within. closed times t after 0 rising all is_after le w d (omega arith) within
found times t (Some b) after rising all is_before is_after le =
    let has : HasTime times b.version b.time = All-head (Has times) (b.version, b.time) (told after) all in
    record {
      is_version = slice_get_within times b.version b.time has;
      at_most = λ d. subst (λ (y : ℤ). y ≤ℤ t) (sym (get_or_from_slice_get times b.version b.time d has)) is_before;
      later_are_after =
          λ w d more within.
          closed times t after (b.version + 1) rising (told_after times (Some b) (told after) all) is_after le w d (omega arith) within;
    }

none_is : (o : Option ℕ) → IsNone o → o ≡ None
none_is None h = refl
none_is (Some x) h = cc

-- a search that asks for nothing has found the version
pub search_found : (a : Inside) (times : List ℤ) → IsNarrowed a → Agrees (search_of a) times → middle (low a.before) (high a.len a.after) ≡ None
    → IsVersionAt times a.time (option_map (λ b. b.version) a.before)
search_found a times narrowed agrees none =
    let le : high a.len a.after ≤ low a.before = grind (arith, nat_tests, none) in
    found times a.time a.before a.after agrees.rising agrees.answers narrowed.is_before narrowed.is_after
    (subst (λ (n : ℕ). high n a.after ≤ low a.before) (sym agrees.versions) le)

-- an answer at or before the time
pub agrees_before : (a : Inside) (v : ℕ) (t t' : ℤ) → t' ≡ t → (times : List ℤ) → Agrees (search_of a) times → HasTime times v t
    → Agrees (search_of (record { len = a.len; time = a.time; before = Some (record { version = v; time = t' }); after = a.after })) times
agrees_before a v t t' e times agrees has =
    record {
      versions = agrees.versions;
      rising = agrees.rising;
      answers = All-cons (Has times) (v, t') (told a.after) (subst (λ (y : ℤ). HasTime times v y) (sym e) has)
          (told_after times a.before (told a.after) agrees.answers);
    }

-- an answer after the time
pub agrees_after : (a : Inside) (v : ℕ) (t t' : ℤ) → t' ≡ t → (times : List ℤ) → Agrees (search_of a) times → HasTime times v t
    → Agrees (search_of (record { len = a.len; time = a.time; before = a.before; after = Some (record { version = v; time = t' }) })) times
agrees_after a v t t' e times agrees has =
    record {
      versions = agrees.versions;
      rising = agrees.rising;
      answers = All-append (Has times) (told a.before) ((v, t') ∷ []) (told_before times a.before (told a.after) agrees.answers)
          (All-cons (Has times) (v, t') [] (subst (λ (y : ℤ). HasTime times v y) (sym e) has) (All-nil (Has times)));
    }

-- the version that is asked for is in the middle of those that are left
asked : (l h v : ℕ) → Some v ≡ middle l h → (l < h) × (v ≡ l + (h - l) / 2)
asked l h v e = let p = cond_some (nat_lt l h) (l + (h - l) / 2) v (sym e) in (grind (arith, nat_tests, p.0), sym p.1)

-- fewer versions are left above it
pub fewer_above : (l h v : ℕ) → h < 2 ^ 64 → Some v ≡ middle l h → binary_digits (h - (v + 1)) < binary_digits (h - l)
fewer_above l h v small e =
    let (below, is) = asked l h v e in binary_digits_half (h - (v + 1)) (h - l) (omega arith) (omega arith) (omega arith)

-- and below it
pub fewer_below : (l h v : ℕ) → h < 2 ^ 64 → Some v ≡ middle l h → binary_digits (v - l) < binary_digits (h - l)
fewer_below l h v small e =
    let (below, is) = asked l h v e in binary_digits_half (v - l) (h - l) (omega arith) (omega arith) (omega arith)

-- the new search after the version v had the time t' at or before the time
abbrev pub after_before : Inside → ℕ → ℤ → Search
after_before a v t' = search_of (record { len = a.len; time = a.time; before = Some (record { version = v; time = t' }); after = a.after })

-- and after it
abbrev pub after_after : Inside → ℕ → ℤ → Search
after_after a v t' = search_of (record { len = a.len; time = a.time; before = a.before; after = Some (record { version = v; time = t' }) })

-- both, for the version that a search asks for
pub answer_before : (a : Inside) (s : Search) → search_of a ≡ s → (v : ℕ) → Some v ≡ s.asks → (t t' : ℤ) → t' ≡ t
    → IfSome s.asks (λ w. (times : List ℤ) → Agrees s times → HasTime times w t → Agrees (after_before a v t') times)
answer_before a s is v asks t t' e =
    subst (λ (o : Option ℕ). IfSome o (λ w. (times : List ℤ) → Agrees s times → HasTime times w t → Agrees (after_before a v t') times)) asks
    (λ times agrees has. agrees_before a v t t' e times (subst (λ (r : Search). Agrees r times) (sym is) agrees) has)

pub answer_after : (a : Inside) (s : Search) → search_of a ≡ s → (v : ℕ) → Some v ≡ s.asks → (t t' : ℤ) → t' ≡ t
    → IfSome s.asks (λ w. (times : List ℤ) → Agrees s times → HasTime times w t → Agrees (after_after a v t') times)
answer_after a s is v asks t t' e =
    subst (λ (o : Option ℕ). IfSome o (λ w. (times : List ℤ) → Agrees s times → HasTime times w t → Agrees (after_after a v t') times)) asks
    (λ times agrees has. agrees_after a v t t' e times (subst (λ (r : Search). Agrees r times) (sym is) agrees) has)

-- the search has found the version that it looks for
pub result_is : (a : Inside) (s : Search) → search_of a ≡ s → IsNarrowed a → IsNone s.asks → (times : List ℤ) → Agrees s times
    → IsVersionAt times s.time (option_map (λ b. b.version) a.before)
result_is a s is narrowed none times agrees =
    subst (λ (r : Search). IsNone r.asks → Agrees r times → IsVersionAt times r.time (option_map (λ b. b.version) a.before)) is
    (λ none agrees. search_found a times narrowed agrees (none_is _ none)) none agrees
