-- Where each new version is the caller's own and no try was lost, no answer tells of others; where each name that was found taken was put by
-- the caller, and none by these calls, no answer tells of a name that was taken.
use Rattle.std.proofs.Common.{◌≡◌, ◌⊎◌, ◌≤◌, ◌<◌, ◌+◌, ℕ, Bool, true, false, IsTrue, List, [], ◌∷◌, length, refl, inl, inr, sym, ◌∙◌, ap, subst, length-append, arith, Option, Some, None}
use Rattle.std.specs.Prelude.{All, Contains, IfSome, IsSomeAnd, IsFalse}
use Rattle.std.proofs.lemmas.List.Elements.{All-nil, All-cons, Contains-append_left, Contains-append_right, Contains-append_cases}
use Rattle.log_names.specs.declared.LogName.{LogName}
use Rattle.log_names.specs.declared.LogName.TheVariants as name
use Rattle.table_model.specs.Knowledge.{Knowledge, Terms}
use Rattle.answer_names.specs.Names.{Names, Answer, names_of}
use Rattle.answer_names.specs.Gaining.{one_for, IsFront, IsStagedName}
use Rattle.answer_names.specs.Chain.{Follows, Chain}
use Rattle.answer_names.specs.Together.{versions_in, takens_in, total}
use Rattle.answer_names.specs.Others.{IsUncontested, IsUntaken}
use Rattle.answer_names.proofs.Chains.{chain_grows, length_grown}

-- ---- each answer that tells of others makes what is seen, or the list of lost tries, longer than its own versions do

abbrev one_if : Bool → ℕ
one_if false = 0
one_if true = 1

own_seen : (a : Names) (k m : Knowledge) (o : Option ℕ) → length k.seen ≤ length m.seen → length a.versions ≤ one_for o → IfSome o (λ n. IsFront a n k m)
    → length k.seen + length a.versions ≤ length m.seen
own_seen a k m None grown few f = omega (arith, grown, few)
own_seen a k m (Some n) grown few f = omega (arith, f.from, f.to)

counted : (b : Bool) (seen seen' own tries tries' lost : ℕ) → seen + own ≤ seen' → tries + lost ≤ tries' → (IsTrue b → (0 < lost) ⊎ (seen + own < seen'))
    → (seen + tries) + (own + one_if b) ≤ seen' + tries'
counted false seen seen' own tries tries' lost h t others = omega (arith, h, t)
counted true seen seen' own tries tries' lost h t others = elim (others refl) [ inl some ↦ omega (arith, h, t, some) | inr more ↦ omega (arith, more, t) ]

terms_allow : (o : Option Terms) (t : Terms) → o ≡ Some t → 1 ≤ t.limits.attempts → IsSomeAnd o (λ u. 1 ≤ u.limits.attempts)
terms_allow o t e least = let P : Option Terms → Type 0 = λ p. IsSomeAnd p (λ u. 1 ≤ u.limits.attempts) in subst P (sym e) least

answer_longer : (tells : Bool) (k : Knowledge) (x : Answer) (t : Terms) → k.terms ≡ Some t → 1 ≤ t.limits.attempts → Follows tells k x
    → (length k.seen + length k.tries) + (length x.names.versions + one_if x.names.contested) ≤ length x.after.seen + length x.after.tries
answer_longer tells k x t e least h =
    let a = x.names in
    counted a.contested (length k.seen) (length x.after.seen) (length a.versions) (length k.tries) (length x.after.tries) a.tries
    (own_seen a k x.after a.front (length_grown k x.after h.grows) h.gains.one.few h.gains.front) h.gains.tries
    (λ contested. h.gains.others contested (terms_allow x.after.terms t (h.grows.terms ∙ e) least))

chain_longer : (tells : Bool) (k m : Knowledge) (t : Terms) (xs : List Answer) → k.terms ≡ Some t → 1 ≤ t.limits.attempts → Chain tells k xs m
    → (length k.seen + length k.tries) + (length (versions_in (names_of xs)) + total (λ a. one_if a.contested) (names_of xs)) ≤ length m.seen + length m.tries
chain_longer tells k m t [] e least r = omega (arith, ap (λ (n : Knowledge). length n.seen) r, ap (λ (n : Knowledge). length n.tries) r)
chain_longer tells k m t (x ∷ xs) e least r = omega (
  arith,
  answer_longer tells k x t e least r.0,
  chain_longer tells x.after m t xs (r.0.grows.terms ∙ e) least r.1,
  length-append x.names.versions (versions_in (names_of xs)),
)

is_uncontested : (b : Bool) → one_if b ≡ 0 → IsFalse b
is_uncontested false e = refl
is_uncontested true e = absurd (omega (arith, e))

none_contested : (xs : List Names) → total (λ a. one_if a.contested) xs ≡ 0 → All IsUncontested xs
none_contested [] e = All-nil IsUncontested
none_contested (a ∷ xs) e = All-cons IsUncontested a xs (is_uncontested a.contested (omega (arith, e))) (none_contested xs (omega (arith, e)))

pub chain_uncontested : (tells : Bool) (k m : Knowledge) (t : Terms) (xs : List Answer) → Chain tells k xs m → k.terms ≡ Some t → 1 ≤ t.limits.attempts → m.tries ≡ k.tries
    → length m.seen ≡ length k.seen + length (versions_in (names_of xs)) → All IsUncontested (names_of xs)
chain_uncontested tells k m t xs r e least tries own = none_contested (names_of xs) (omega (arith, chain_longer tells k m t xs e least r, own, ap length tries))

-- ---- names that were found taken

none_in : (n : LogName) → Contains [] n → ⊥
none_in n c = omega (arith, c.1)

noted_in : (a : Names) (m : Knowledge) (n : LogName) → All (Contains m.takens) a.takens → Contains a.takens n → Contains m.takens n
noted_in a m n noted c = subst (Contains m.takens) c.2 (noted c.0 n c.1)

chain_takens : (tells : Bool) (k m : Knowledge) (xs : List Answer) → Chain tells k xs m → (n : LogName) → Contains (takens_in (names_of xs)) n → Contains m.takens n
chain_takens tells k m [] r n c = absurd (none_in n c)
chain_takens tells k m (x ∷ xs) r n c = elim (Contains-append_cases x.names.takens (takens_in (names_of xs)) n c) [
  | inl here ↦
      let grown = chain_grows tells x.after m xs r.1 in
      let now = noted_in x.names x.after n r.0.gains.noted here in
      let P : List LogName → Type 0 = λ ns. Contains ns n in
      subst P (sym grown.takens.is) (Contains-append_left x.after.takens grown.takens.rest n now)
  | inr later ↦ chain_takens tells x.after m xs r.1 n later
]

no_takens : (ns : List LogName) → All IsStagedName ns → ((version id : ℕ) → Contains ns (name.Staged version id) → ⊥) → ns ≡ []
no_takens [] staged none = refl
no_takens (n ∷ ns) staged none =
    let s : IsStagedName n = staged 0 n (omega arith) in
    let c : Contains (n ∷ ns) n = (0, omega arith, refl) in
    absurd (none s.version s.id (subst (Contains (n ∷ ns)) s.is c))

none_untaken : (tells : Bool) (k m : Knowledge) (xs : List Answer) → Chain tells k xs m → ((version id : ℕ) → Contains (takens_in (names_of xs)) (name.Staged version id) → ⊥) → All IsUntaken (names_of xs)
none_untaken tells k m [] r none = All-nil IsUntaken
none_untaken tells k m (x ∷ xs) r none =
    let rest = takens_in (names_of xs) in
    All-cons IsUntaken x.names (names_of xs)
    (no_takens x.names.takens r.0.gains.staged (λ version id c. none version id (Contains-append_left x.names.takens rest (name.Staged version id) c)))
    (none_untaken tells x.after m xs r.1 (λ version id c. none version id (Contains-append_right x.names.takens rest (name.Staged version id) c)))

pub chain_untaken : (tells : Bool) (k m : Knowledge) (xs : List Answer) → Chain tells k xs m
    → ((version id : ℕ) → Contains m.takens (name.Staged version id) → Contains m.put (name.Staged version id))
    → ((version id : ℕ) → Contains (takens_in (names_of xs)) (name.Staged version id) → ¬ (Contains m.put (name.Staged version id)))
    → All IsUntaken (names_of xs)
chain_untaken tells k m xs r puts apart = none_untaken tells k m xs r (λ version id c. apart version id c (puts version id (chain_takens tells k m xs r (name.Staged version id) c)))
