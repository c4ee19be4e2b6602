-- Appending the lines of actions.
use Rattle.std.proofs.Common.{◌≡◌, ℕ, List, [], ◌∷◌, ◌++◌, map, Result, Ok, Err, refl, sym, ap, ◌∙◌, subst, append_assoc, append-nil}
use Rattle.std.proofs.lemmas.Grind.{flat_map-append}
use Rattle.text_lines.specs.Lines.{with_lf}
use Rattle.action_types.specs.declared.actions.Action.{Action}
use Rattle.action_fields.specs.Canonical.{canonical_line}
use Rattle.action_json.specs.Commit.{canonical_text, IsWritten, AreWritten}
use Rattle.checkpoint_v2.specs.Canonical.{Pushes}

text-nil : canonical_text [] ≡ []
unfolding canonical_text
text-nil = refl

text-one : (a : Action) → canonical_text (a ∷ []) ≡ with_lf (canonical_line a)
unfolding canonical_text
text-one a = append-nil (with_lf (canonical_line a))

pub text-append : (xs ys : List Action) → canonical_text (xs ++ ys) ≡ canonical_text xs ++ canonical_text ys
unfolding canonical_text
text-append xs ys = flat_map-append (λ a. with_lf (canonical_line a)) xs ys

written-append : (xs ys : List Action) → AreWritten xs → AreWritten ys → AreWritten (xs ++ ys)
written-append [] ys h k = k
written-append (x ∷ xs) ys h k = (h.0, written-append xs ys h.1 k)

-- nothing is appended
pub pushes_none : {T E : Type 0} (x : T) (text : List ℕ) → Pushes {E = E} (Ok x) text text []
pushes_none x text = record { ok = sym (ap (λ l. text ++ l) text-nil ∙ append-nil text); written = tt }

-- a line and its LF
pub pushes_line : {T E : Type 0} (x : T) (old mid new : List ℕ) (a : Action) → mid ≡ old ++ canonical_line a → new ≡ mid ++ 10 ∷ [] → IsWritten a → Pushes {E = E} (Ok x) old new (a ∷ [])
pushes_line x old mid new a line end w = record {
  ok = end ∙ ap (λ l. l ++ 10 ∷ []) line ∙ append_assoc old (canonical_line a) (10 ∷ []) ∙ ap (λ l. old ++ l) (sym (text-one a));
  written = (w, tt);
}

-- a line and its LF, made apart from the text
pub pushes_made : {T E : Type 0} (x : T) (old new cleared made ended : List ℕ) (a : Action) → cleared ≡ [] → made ≡ cleared ++ canonical_line a → ended ≡ made ++ 10 ∷ []
    → new ≡ old ++ ended → IsWritten a → Pushes {E = E} (Ok x) old new (a ∷ [])
pushes_made x old new cleared made ended a none line end all w =
    pushes_line x old (old ++ canonical_line a) new a refl
    (all ∙ ap (λ l. old ++ l) (end ∙ ap (λ l. l ++ 10 ∷ []) (line ∙ ap (λ l. l ++ canonical_line a) none)) ∙ sym (append_assoc old (canonical_line a) (10 ∷ []))) w

-- some lines, and then more
pub pushes_more : {T U E : Type 0} (r : Result T E) (x : U) (old mid new : List ℕ) (xs ys : List Action) → Pushes {E = E} (Ok x) old mid xs → Pushes r mid new ys → Pushes r old new (xs ++ ys)
pushes_more (Ok y) x old mid new xs ys h k = record {
  ok = k.ok ∙ ap (λ l. l ++ canonical_text ys) h.ok ∙ append_assoc old (canonical_text xs) (canonical_text ys) ∙ ap (λ l. old ++ l) (sym (text-append xs ys));
  written = written-append xs ys h.written k.written;
}
pushes_more (Err e) x old mid new xs ys h k = record { ok = tt; written = tt }

-- ---- a loop over entries, each of which is an action

-- what is left, after a text, makes all of it after the old one
pub record Makes {X : Type 0} (make : X → Action) (all : List X) (old text : List ℕ) (rest : List X) : Type 0 where
  pub whole : text ++ canonical_text (map make rest) ≡ old ++ canonical_text (map make all)
  pub written : AreWritten (map make rest) → AreWritten (map make all)

pub makes_step : {X T E : Type 0} (make : X → Action) (all : List X) (old : List ℕ) (u : T) (text new : List ℕ) (x : X) (iter rest : List X)
    → iter ≡ x ∷ rest → Pushes {E = E} (Ok u) text new (make x ∷ []) → Makes make all old text iter → Makes make all old new rest
makes_step make all old u text new x iter rest is p m =
    let here : Makes make all old text (x ∷ rest) = subst (λ l. Makes make all old text l) is m in
    record {
      whole = ap (λ l. l ++ canonical_text (map make rest)) p.ok ∙ append_assoc text (canonical_text (make x ∷ [])) (canonical_text (map make rest))
          ∙ ap (λ l. text ++ l) (sym (text-append (make x ∷ []) (map make rest))) ∙ here.whole;
      written = λ w. here.written (p.written.0, w);
    }

pub makes_end : {X T E : Type 0} (make : X → Action) (all : List X) (old : List ℕ) (u : T) (text : List ℕ) (iter : List X)
    → iter ≡ [] → Makes make all old text iter → Pushes {E = E} (Ok u) old text (map make all)
makes_end make all old u text iter is m =
    let here : Makes make all old text [] = subst (λ l. Makes make all old text l) is m in
    record { ok = sym (append-nil text) ∙ ap (λ l. text ++ l) (sym text-nil) ∙ here.whole; written = here.written tt }
