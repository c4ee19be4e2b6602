-- What is true of a world stays so where two callers are joined.
use Rattle.std.proofs.Common.{◌≡◌, ◌<◌, ◌≤◌, ◌⊎◌, inl, inr, ℕ, List, ◌++◌, length, take, drop, refl, sym, subst, arith, IsTrue, max}
use Rattle.std.proofs.lemmas.List.{length-take, take-append-drop}
use Rattle.std.proofs.lemmas.List.Elements.{All-weaker, All-append}
use Rattle.std.specs.Prelude.{All}
use Rattle.log_names.specs.declared.LogName.TheVariants as name
use Rattle.table_model.specs.declared.known.Mark.{Mark}
use Rattle.table_model.specs.Log.{Commit}
use Rattle.table_model.specs.World.{WorldData, stands, log_of}
use Rattle.table_model.specs.Knowledge.{Knowledge, StartsWith}
use Rattle.table_model.specs.Holding.{HoldsIn, IsKeptIn}
use Rattle.table_model.specs.Sharing.{both_known}
use Rattle.table_model.specs.Noted.{known_with}
use Rattle.table_model.proofs.Worlds.{below_or_above}

front : (n : ℕ) (log : List Commit) → StartsWith log (take n log)
front n log = record { rest = drop n log; is = sym (take-append-drop n log) }

below_either : (n a b : ℕ) → n < max a b → (n < a) ⊎ (n < b)
below_either n a b less = elim (below_or_above n a) [ inl below ↦ inl below | inr above ↦ inr (omega arith) ]

stands_either : (w : WorldData) (k m : Knowledge) → ((version : ℕ) → version < k.published → IsTrue (stands w (name.Published version)))
    → ((version : ℕ) → version < m.published → IsTrue (stands w (name.Published version)))
    → (version : ℕ) → (version < k.published) ⊎ (version < m.published) → IsTrue (stands w (name.Published version))
stands_either w k m f g version (inl less) = f version less
stands_either w k m f g version (inr less) = g version less

-- a longer front has all that a shorter one has
longer_front : (n a b : ℕ) (log : List Commit) → a ≤ b → n < length (take a log) → n < length (take b log)
longer_front n a b log le less = let e = length-take a log in let f = length-take b log in omega (arith, e, f)

holds-both : (w : WorldData) (s t : ℕ) (k m : Knowledge) → HoldsIn w (known_with k s w) → HoldsIn w (known_with m t w)
    → HoldsIn w (known_with (both_known k m) (max s t) w)
holds-both w s t k m h g = record {
  terms = refl;
  seen = front (max s t) (log_of w);
  mine = All-append (λ (n : ℕ). n < length (take (max s t) (log_of w))) k.mine m.mine
      (All-weaker (λ (n : ℕ). n < length (take s (log_of w))) (λ (n : ℕ). n < length (take (max s t) (log_of w))) (λ n less. longer_front n s (max s t) (log_of w) (omega arith) less) k.mine h.mine)
      (All-weaker (λ (n : ℕ). n < length (take t (log_of w))) (λ (n : ℕ). n < length (take (max s t) (log_of w))) (λ n less. longer_front n t (max s t) (log_of w) (omega arith) less) m.mine g.mine);
  told = let a = h.told in let b = g.told in omega (arith, a, b);
  reported = let a = h.reported in let b = g.reported in omega (arith, a, b);
  within = let a = h.within in let b = g.within in omega (arith, a, b);
  published = λ tells version less. stands_either w k m (h.published tells) (g.published tells) version (below_either version k.published m.published less);
  kept = λ tells. All-append (IsKeptIn w) k.kept m.kept (h.kept tells) (g.kept tells);
  marks = λ tells. All-append (λ (n : Mark). n.version < max k.published m.published) k.marks m.marks
      (All-weaker (λ (n : Mark). n.version < k.published) (λ (n : Mark). n.version < max k.published m.published) (λ n less. omega arith) k.marks (h.marks tells))
      (All-weaker (λ (n : Mark). n.version < m.published) (λ (n : Mark). n.version < max k.published m.published) (λ n less. omega arith) m.marks (g.marks tells));
  marked = λ tells. All-append (λ (n : Mark). IsTrue (stands w (name.Checkpoint n.version n.id))) k.marks m.marks (h.marked tells) (g.marked tells);
  faults = h.faults;
}

pub both_holds : (w : WorldData) (s t n : ℕ) (k m past other : Knowledge) → n ≡ max s t → past ≡ k → other ≡ m → HoldsIn w (known_with k s w) → HoldsIn w (known_with m t w)
    → HoldsIn w (known_with (both_known past other) n w)
both_holds w s t n k m past other longest e f h g =
    let P : Knowledge → Type 0 = λ j. HoldsIn w (known_with (both_known j other) n w) in
    let Q : Knowledge → Type 0 = λ j. HoldsIn w (known_with (both_known k j) n w) in
    let R : ℕ → Type 0 = λ j. HoldsIn w (known_with (both_known k m) j w) in
    subst P (sym e) (subst Q (sym f) (subst R (sym longest) (holds-both w s t k m h g)))
