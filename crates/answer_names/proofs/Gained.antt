-- What an answer owes to its moment, from what its call left.
use Rattle.std.proofs.Common.{◌≡◌, ◌≤◌, ◌+◌, ◌<◌, ℕ, Bool, IsTrue, zero, suc, List, [], ◌∷◌, ◌++◌, length, filter, refl, sym, ◌∙◌, ap, subst, length-append, append-nil, arith, true, false, cond, Some}
use Rattle.std.specs.Prelude.{All, Contains, IfSome, IsSomeAnd, IsFalse, slice_index_or}
use Rattle.std.proofs.lemmas.List.Elements.{All-nil, filter-append}
use Rattle.log_names.specs.declared.LogName.{LogName}
use Rattle.table_model.specs.declared.answers.Spot.{Spot}
use Rattle.table_model.specs.Knowledge.{Knowledge, IsGrown, StartsWith}
use Rattle.answer_names.specs.Names.{Names, nothing}
use Rattle.answer_names.specs.Gaining.{known_length, times, one_for, IsFront, HasOneVersion, IsStagedName, HasOthers, Gains}
use Rattle.answer_names.proofs.Chains.{length_longer}

pub times_longer : {A : Type 0} (test : A → Bool) (front longer : List A) → (s : StartsWith longer front) → times test front + times test s.rest ≡ times test longer
times_longer test front longer s = sym (ap (times test) s.is ∙ ap length (filter-append test front s.rest) ∙ length-append (filter test front) (filter test s.rest))

-- ---- what is among the gained elements counts

times_cons : {A : Type 0} (test : A → Bool) (x : A) (xs : List A) → times test xs ≤ times test (x ∷ xs)
times_cons test x xs = elim (test x) as (λ b. length (filter test xs) ≤ length (cond b (x ∷ filter test xs) (filter test xs))) [ true ↦ omega arith | false ↦ omega arith ]

times_head : {A : Type 0} (test : A → Bool) (x : A) (xs : List A) → times test (x ∷ []) ≤ times test (x ∷ xs)
times_head test x xs = elim (test x) as (λ b. length (cond b (x ∷ []) []) ≤ length (cond b (x ∷ filter test xs) (filter test xs))) [ true ↦ omega arith | false ↦ omega arith ]

times_at : {A : Type 0} (test : A → Bool) (a : A) (xs : List A) (k : ℕ) → k < length xs → slice_index_or xs k a ≡ a → times test (a ∷ []) ≤ times test xs
times_at test a [] k h e = absurd (omega arith)
times_at {A} test a (x ∷ xs) zero h e = let P : A → Type 0 = λ y. times test (y ∷ []) ≤ times test (x ∷ xs) in subst P e (times_head test x xs)
times_at test a (x ∷ xs) (suc k) h e = omega (arith, times_at test a xs k (omega arith) e, times_cons test x xs)

times_one : {A : Type 0} (test : A → Bool) (a : A) (xs : List A) → Contains xs a → times test (a ∷ []) ≤ times test xs
times_one test a xs c = times_at test a xs c.0 c.1 c.2

pub times_gained : {A : Type 0} (test : A → Bool) (a : A) (front longer : List A) → (s : StartsWith longer front) → Contains s.rest a → times test front + times test (a ∷ []) ≤ times test longer
times_gained test a front longer s c = omega (arith, times_longer test front longer s, times_one test a s.rest c)

-- ---- answers

-- what a call says of the length of the table, whatever it answers
pub record IsFrontOf (a : Names) (k m : Knowledge) : Type 0 where
  pub front : IfSome a.front (λ n. IsFront a n k m)
  pub newest : IsTrue a.newest → IfSome a.front (λ n. n ≡ length m.seen)
  pub base : IfSome a.base (λ b. known_length k ≤ b + 1)
  pub asked : k.asks + one_for a.front ≤ m.asks
  pub mine : m.mine ≡ k.mine ++ a.versions
  pub one : HasOneVersion a

-- no version is named
pub one_of_none : (a : Names) → a.versions ≡ [] → HasOneVersion a
one_of_none a e = record {
  few = omega (arith, ap length e);
  last = let P : List ℕ → Type 0 = λ vs. All (λ version. a.front ≡ Some (version + 1)) vs in subst P (sym e) (All-nil (λ (version : ℕ). a.front ≡ Some (version + 1)));
}

-- an answer that names no fault and no name taken, by what it tells of others
pub gains_lost : (tells : Bool) (a : Names) (k m : Knowledge) → IsGrown k m → IsFrontOf a k m → m.faults ≡ k.faults → a.spots ≡ [] → a.takens ≡ []
    → length k.tries + a.tries ≤ length m.tries → (IsTrue a.contested → IsSomeAnd m.terms (λ t. 1 ≤ t.limits.attempts) → HasOthers a k m) → Gains tells a k m
gains_lost tells a k m g f same spots takens tries others = record {
  front = f.front;
  newest = f.newest;
  base = f.base;
  asked = f.asked;
  mine = f.mine;
  one = f.one;
  others = others;
  faults = λ t. omega (arith, g.faults, ap length spots);
  no_other = omega (arith, same);
  failed = λ t test. omega (arith, times_longer test k.failed m.failed g.failed, ap (times test) spots);
  takens = λ test. omega (arith, times_longer test k.takens m.takens g.takens, ap (times test) takens);
  noted = let P : List LogName → Type 0 = λ ns. All (Contains m.takens) ns in subst P (sym takens) (All-nil (Contains m.takens));
  staged = let P : List LogName → Type 0 = λ ns. All IsStagedName ns in subst P (sym takens) (All-nil IsStagedName);
  tries = tries;
}

-- an answer that names nothing of others either
pub gains_quiet : (tells : Bool) (a : Names) (k m : Knowledge) → IsGrown k m → IsFrontOf a k m → m.faults ≡ k.faults → a.spots ≡ [] → a.takens ≡ [] → a.tries ≡ 0 → IsFalse a.contested → Gains tells a k m
gains_quiet tells a k m g f same spots takens tries alone =
    gains_lost tells a k m g f same spots takens (omega (arith, length_longer k.tries m.tries g.tries, tries)) (λ contested. cc)

-- nothing is named
pub gains_nothing : (tells : Bool) (k m : Knowledge) → IsGrown k m → m.mine ≡ k.mine → m.faults ≡ k.faults → Gains tells nothing k m
gains_nothing tells k m g mine same = gains_quiet tells nothing k m g (record {
  front = tt;
  newest = λ is. tt;
  base = tt;
  asked = omega (arith, g.asks);
  mine = mine ∙ sym (append-nil k.mine);
  one = one_of_none nothing refl;
}) same refl refl refl refl

-- a fault of the store at a spot
pub gains_fault : (tells : Bool) (at : Spot) (k m : Knowledge) → IsGrown k m → m.mine ≡ k.mine → m.faults ≤ k.faults + 1
    → (IsTrue tells → k.faults < m.faults) → (IsTrue tells → (test : Spot → Bool) → times test k.failed + times test (at ∷ []) ≤ times test m.failed)
    → Gains tells (record nothing { spots = at ∷ [] }) k m
gains_fault tells at k m g mine counts rose noted = record {
  front = tt;
  newest = λ is. tt;
  base = tt;
  asked = omega (arith, g.asks);
  mine = mine ∙ sym (append-nil k.mine);
  one = one_of_none (record nothing { spots = at ∷ [] }) refl;
  others = λ contested. cc;
  faults = λ t. omega (arith, rose t);
  no_other = omega (arith, counts);
  failed = noted;
  takens = λ test. omega (arith, times_longer test k.takens m.takens g.takens);
  noted = All-nil (Contains m.takens);
  staged = All-nil IsStagedName;
  tries = omega (arith, length_longer k.tries m.tries g.tries);
}
