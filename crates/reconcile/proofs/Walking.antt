-- One step of a walk over files.
use Rattle.std.proofs.Common.{◌≡◌, ℕ, ◌<◌, Bool, true, false, cond, List, [], ◌∷◌, ◌++◌, map, length, refl, ap, sym, ◌∙◌, arith, Bor}
use Rattle.std.specs.Prelude.{Option, Some, None, MatchOption}
use Rattle.std.specs.Option.{option_copied}
use Rattle.std.specs.FinMap as fin
use Rattle.std.specs.declared.string.String.{String}
use Rattle.std.specs.declared.alloc.Global.{Global}
use Rattle.reconcile.specs.Named.{named}
use Rattle.action_types.specs.Files.{File, name_cmp}
use Rattle.reconcile.specs.ByFile.{plain_entries, marked_entries, up_to, above, in_file_order}
use Rattle.reconcile.specs.Left.{ahead, first_name, first_value, rest_of, given_left, files_left, name_after, is_marked_first, opened}

pub not_marked : {V W : Type 0} (ps : List (List ℕ × V)) (ms : List (List ℕ × W)) (o : Option (Bor (List ℕ))) → o ≡ None → option_copied o ≡ first_name ms → false ≡ is_marked_first ps ms
not_marked ps [] o e f = refl
not_marked ps (m ∷ ms) o e f = let g : None ≡ Some m.0 = ap option_copied (sym e) ∙ f in cc

pub marked_is : {V W : Type 0} (ps : List (List ℕ × V)) (ms : List (List ℕ × W)) (marked : Bor (List ℕ)) (o : Option (Bor (List ℕ))) (r : Bool) → o ≡ Some marked
    → option_copied o ≡ first_name ms → r ≡ name_after (first_name ps) marked.now → r ≡ is_marked_first ps ms
marked_is ps [] marked o r e f h = let g : Some marked.now ≡ None = ap option_copied (sym e) ∙ f in cc
marked_is ps (m ∷ ms) marked o r e f h = let g : Some marked.now ≡ Some m.0 = ap option_copied (sym e) ∙ f in let same : marked.now ≡ m.0 = cc in h ∙ ap (name_after (first_name ps)) same

module _ {V : Type 0} where
  -- one entry was taken off, and stands apart
  pub ahead_next : (r : Option (Bor (String Global) × Bor V)) (old new : List (String Global × V))
      → MatchOption r ((old ≡ []) × (new ≡ [])) (λ x. old ≡ (x.0.now, x.1.now) ∷ new) → ahead r new ≡ named old
  ahead_next None old new h = ap named (sym h.0)
  ahead_next (Some x) old new h = ap named (sym h)

  pub given_next : (o : Option (List V)) (vs new : List V) (r : Option (Bor V)) → o ≡ Some vs → MatchOption r ((vs ≡ []) × (new ≡ [])) (λ x. vs ≡ x.now ∷ new)
      → MatchOption r ((given_left o ≡ []) × (new ≡ [])) (λ x. given_left o ≡ x.now ∷ new)
  given_next o vs new None e h = (ap given_left e ∙ h.0, h.1)
  given_next o vs new (Some x) e h = ap given_left e ∙ h

  values-append : (xs ys : List (File × V)) → map (λ e. e.1) (xs ++ ys) ≡ map (λ e. e.1) xs ++ map (λ e. e.1) ys
  values-append [] ys = refl
  values-append (x ∷ xs) ys = ap (λ vs. x.1 ∷ vs) (values-append xs ys)

  values-marked : (q : List ℕ) (es : List (List ℕ × V)) → map (λ e. e.1) (marked_entries q es) ≡ map (λ e. e.1) es
  values-marked q [] = refl
  values-marked q (e ∷ es) = ap (λ vs. e.1 ∷ vs) (values-marked q es)

  -- a path with vectors stands first
  in_order-marked : (ps : List (List ℕ × V)) (m : List ℕ × fin.FinMap name_cmp V) (ms : List (List ℕ × fin.FinMap name_cmp V)) → is_marked_first ps (m ∷ ms) ≡ true
      → in_file_order ps (m ∷ ms) ≡ marked_entries m.0 (fin.entries m.1) ++ in_file_order ps ms
  in_order-marked [] m ms e = refl
  in_order-marked (p ∷ ps) m ms e =
      λ i. plain_entries (cond (e i) [] (p ∷ up_to m.0 ps)) ++ (marked_entries m.0 (fin.entries m.1) ++ in_file_order (cond (e i) (p ∷ ps) (above m.0 ps)) ms)

  -- a path without one stands first
  in_order-plain : (p : List ℕ × V) (ps : List (List ℕ × V)) (ms : List (List ℕ × fin.FinMap name_cmp V)) → is_marked_first (p ∷ ps) ms ≡ false
      → map (λ e. e.1) (in_file_order (p ∷ ps) ms) ≡ p.1 ∷ map (λ e. e.1) (in_file_order ps ms)
  in_order-plain p ps [] e = refl
  in_order-plain p ps (m ∷ ms) e =
      λ i. map (λ e. e.1) (plain_entries (cond (e i) [] (p ∷ up_to m.0 ps)) ++ (marked_entries m.0 (fin.entries m.1) ++ in_file_order (cond (e i) (p ∷ ps) (above m.0 ps)) ms))

  pub files_left-opened : (given : List V) (ps : List (List ℕ × V)) (ms : List (List ℕ × fin.FinMap name_cmp V)) → given ≡ [] → is_marked_first ps ms ≡ true
      → files_left given ps ms ≡ files_left (opened ms) ps (rest_of ms)
  files_left-opened given ps [] g e = cc
  files_left-opened given ps (m ∷ ms) g e =
      ap (λ vs. vs ++ map (λ e. e.1) (in_file_order ps (m ∷ ms))) g ∙ ap (map (λ e. e.1)) (in_order-marked ps m ms e)
      ∙ values-append (marked_entries m.0 (fin.entries m.1)) (in_file_order ps ms)
      ∙ ap (λ vs. vs ++ map (λ e. e.1) (in_file_order ps ms)) (values-marked m.0 (fin.entries m.1))

  pub fewer_marked : (ps : List (List ℕ × V)) (ms : List (List ℕ × fin.FinMap name_cmp V)) → is_marked_first ps ms ≡ true → length (rest_of ms) < length ms
  fewer_marked ps [] e = cc
  fewer_marked ps (m ∷ ms) e = omega arith

  -- the next file is one without a vector, or none is left
  pub files_left-plain : (given : List V) (ps qs : List (List ℕ × V)) (ms : List (List ℕ × fin.FinMap name_cmp V)) (r : Option (Bor V)) → given ≡ [] → is_marked_first ps ms ≡ false
      → option_copied r ≡ first_value ps → qs ≡ rest_of ps
      → MatchOption r ((files_left given ps ms ≡ []) × (files_left given qs ms ≡ [])) (λ x. files_left given ps ms ≡ x.now ∷ files_left given qs ms)
  files_left-plain given [] qs [] None g e f h = (ap (λ vs. vs ++ []) g, λ i. files_left (g i) (h i) [])
  files_left-plain given [] qs (m ∷ ms) None g e f h = cc
  files_left-plain given (p ∷ ps) qs ms None g e f h = cc
  files_left-plain given [] qs ms (Some x) g e f h = cc
  files_left-plain given (p ∷ ps) qs ms (Some x) g e f h =
      let same : x.now ≡ p.1 = cc in
      ap (λ vs. vs ++ map (λ e. e.1) (in_file_order (p ∷ ps) ms)) g ∙ in_order-plain p ps ms e
      ∙ (λ i. sym same i ∷ files_left (sym g i) (sym h i) ms)

  -- the same of a list that is equal to the one before
  pub along : (r : Option (Bor V)) (a b c : List V) → a ≡ b → MatchOption r ((b ≡ []) × (c ≡ [])) (λ x. b ≡ x.now ∷ c) → MatchOption r ((a ≡ []) × (c ≡ [])) (λ x. a ≡ x.now ∷ c)
  along None a b c e h = (e ∙ h.0, h.1)
  along (Some x) a b c e h = e ∙ h
