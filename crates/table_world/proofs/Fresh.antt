-- A folder without names of the log makes a consistent world.
use Rattle.std.proofs.Common.{◌≡◌, ◌≢◌, ◌≤◌, inl, inr, ℕ, Bool, true, false, cond, List, [], ◌∷◌, length, refl, sym, ◌∙◌, ap, arith, Some, None, IsTrue}
use Rattle.log_names.specs.declared.LogName.{LogName}
use Rattle.log_names.specs.declared.LogName.TheVariants as name
use Rattle.log_names.specs.Texts.{name_text, published_text, staged_text, checkpoint_text}
use Rattle.log_names.specs.Reading.{name_of}
use Rattle.commit_catalog.specs.declared.Limits.{Limits}
use Rattle.commit_catalog.specs.Records.{AreLimits}
use Rattle.object_store.specs.Files.{Files, names_of}
use Rattle.table_model.specs.Files.{stands_at}
use Rattle.table_model.specs.World.{WorldData, log_of, commits_from}
use Rattle.table_model.specs.Log.{IsSound}
use Rattle.table_model.specs.Knowledge.{at_start}
use Rattle.table_model.specs.Holding.{terms_of}
use Rattle.table_model.specs.Alone.{HasPutAll}
use Rattle.table_model.specs.Consistency.{IsFiled, IsConsistent}
use Rattle.table_model.specs.Turns.{is_log_name}
use Rattle.table_model.proofs.Sound.{sound-nil}
use Rattle.table_model.proofs.Listing.{In, listed_text}
use Rattle.table_world.specs.Worlds.{world_of, fresh_world, first_log_name}
use Rattle.commit_catalog.specs.Records.{CatalogData}
use Rattle.log_names.proofs.Names.{name_of-meaning, form_short}
use Rattle.std.proofs.Common.{◌-◌}

here_first : (x : List ℕ) (xs : List (List ℕ)) (b : Bool) → b ≡ true → cond b (Some x) (first_log_name xs) ≡ None → ⊥
here_first x xs true e none = cc
here_first x xs false e none = cc

found_here : (x : List ℕ) (xs : List (List ℕ)) (t : List ℕ) (b : Bool) → is_log_name (name_of x) ≡ b → In (x ∷ xs) t → is_log_name (name_of t) ≡ true
    → cond b (Some x) (first_log_name xs) ≡ None → (In xs t → first_log_name xs ≡ None → ⊥) → ⊥
found_here x xs t b e (inl same) log none rest = here_first x xs b (sym e ∙ ap (λ y. is_log_name (name_of y)) same ∙ log) none
found_here x xs t true e (inr there) log none rest = here_first x xs true refl none
found_here x xs t false e (inr there) log none rest = rest there none

found_first : (texts : List (List ℕ)) (t : List ℕ) → In texts t → is_log_name (name_of t) ≡ true → first_log_name texts ≡ None → ⊥
found_first [] t h log none = h
found_first (x ∷ xs) t h log none = found_here x xs t (is_log_name (name_of x)) refl h log none (λ there rest. found_first xs t there log rest)

-- no name of the log stands
nothing_stands : (files : Files) (n : LogName) (t : List ℕ) → first_log_name (names_of files) ≡ None → name_text n ≡ Some t → is_log_name n ≡ true
    → IsTrue (stands_at files n) → ⊥
nothing_stands files n t none text log there =
    let p = listed_text files n t text there in
    found_first (names_of files) t p.0 (ap is_log_name p.1 ∙ log) none

no_log : (limits : Limits) (files : Files) (first : ℕ) (tells : Bool) → IsSound (log_of (fresh_world limits files first tells))
unfolding commits_from
no_log limits files first tells = sound-nil

fresh_filed : (limits : Limits) (files : Files) (first : ℕ) (tells : Bool) → first_log_name (names_of files) ≡ None → IsFiled (fresh_world limits files first tells)
fresh_filed limits files first tells none = record {
  ratified = λ version there. absurd (nothing_stands files (name.Published version) (published_text version) none refl refl there);
  leading = λ version below there less. absurd (nothing_stands files (name.Published version) (published_text version) none refl refl there);
  reported = λ version less. absurd (omega arith);
  kept = λ version less. absurd (omega arith);
  equal = λ version p s less e g. absurd (omega arith);
  sound = no_log limits files first tells;
  times = λ version less. absurd (omega arith);
  checkpoints = λ version id there. absurd (nothing_stands files (name.Checkpoint version id) (checkpoint_text version id) none refl refl there);
}

pub fresh_consistent : (limits : Limits) (files : Files) (first : ℕ) (tells : Bool) → AreLimits limits → (IsTrue tells → first_log_name (names_of files) ≡ None)
    → IsConsistent (fresh_world limits files first tells)
fresh_consistent limits files first tells are none = record {
  sized = record { bounds = are; reported = omega arith; versions = omega arith; unpublished = omega arith };
  filed = λ told. fresh_filed limits files first tells (none told);
}

monus_self : (n : ℕ) → n - n ≡ 0
monus_self n = omega arith

pub fresh_is : (c : CatalogData) (limits : Limits) (files new : Files) (count first before : ℕ) (tells : Bool)
    → c ≡ record { records = []; reported = 0; limits = limits; room = 0 } → new ≡ files → count ≡ before → first ≡ before
    → world_of c new count first tells ≡ fresh_world limits files before tells
fresh_is c limits files new count first before tells empty same counted handed =
    ap (λ (x : CatalogData). world_of x new count first tells) empty
    ∙ ap (λ (x : Files). let w : WorldData = record { records = []; reported = 0; limits = limits; files = x; first = first; tally = count - first; tells = tells } in w) same
    ∙ ap (λ (n : ℕ). let w : WorldData = record { records = []; reported = 0; limits = limits; files = files; first = n; tally = count - n; tells = tells } in w) handed
    ∙ ap (λ (n : ℕ). let w : WorldData = record { records = []; reported = 0; limits = limits; files = files; first = before; tally = n; tells = tells } in w)
    (ap (λ (n : ℕ). n - before) counted ∙ monus_self before)

-- a text that is a name of the log is short
pub log_name_short : (text : List ℕ) → name_of text ≢ name.Other → length text ≤ 78
log_name_short text differ = elim (name_of-meaning text) [
  | inl form ↦ form_short text (name_of text) form
  | inr other ↦ absurd (differ other.0)
]

pub same_count : (count first before : ℕ) → count ≡ before → first ≡ before → first ≤ count
same_count count first before e f = omega arith

-- nothing was put, and nothing stands
pub fresh_put : (limits : Limits) (files : Files) (first : ℕ) (tells : Bool) → first_log_name (names_of files) ≡ None
    → HasPutAll (record { world = fresh_world limits files first tells; known = at_start (terms_of (fresh_world limits files first tells)) })
fresh_put limits files first tells none = record {
  staged = λ version id there. absurd (nothing_stands files (name.Staged version id) (staged_text version id) none refl refl there);
  known = λ version id text c. absurd (omega (arith, c.1));
  ratified = λ version less. absurd (omega (arith, less));
  taken = λ version id c. absurd (omega (arith, c.1));
}
