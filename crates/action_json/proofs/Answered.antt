-- What the calls' clauses say of their results.
use Rattle.std.proofs.Common.{◌≡◌, ℕ, ◌+◌, List, [], ◌∷◌, ◌++◌, take, Result, Ok, Err, IfOk, IfErr, OnOk, refl, sym, ap, ◌∙◌, subst, append_assoc, append-nil}
use Rattle.std.specs.Prelude.{⊤, MatchOption}
use Rattle.std.proofs.lemmas.Grind.{flat_map-append}
use Rattle.std.proofs.lemmas.Result.{MatchResult-at_ok, MatchResult-at_err}
use Rattle.text_lines.specs.Lines.{with_lf}
use Rattle.action_types.specs.declared.actions.Action.{Action}
use Rattle.action_fields.specs.Canonical.{canonical_line}
use Rattle.action_fields.specs.Gives.{Gives}
use Rattle.action_json.specs.Commit.{told, outcome, canonical_text, IsCommit, IsWritten, AreWritten}
use Rattle.action_json.specs.Text.{IsCommitText, IsFirstFlaw}
use Rattle.action_json.specs.declared.fault.BadCommit.{BadCommit}
use Rattle.action_json.specs.declared.fault.BadCommit.TheVariants as bad
use Rattle.action_json.proofs.Sound.{told_outcome, not_both}
use Rattle.action_json.proofs.Commits.{commit-outcome}
use Rattle.action_json.proofs.Again.{outcome-canonical_text}

module _ {X : Type 0} (view : X → List Action) (bytes : List ℕ) where
  pub text_given : (r : Result X BadCommit) → Gives told view r (outcome bytes) → IfOk r (λ v. IsCommitText bytes (view v))
  text_given (Ok v) e = MatchResult-at_ok (IsCommitText bytes) (λ f. IsFirstFlaw bytes f.0 f.1) (view v) e (told_outcome bytes)
  text_given (Err b) e = tt

  pub flaw_given : (r : Result X BadCommit) → Gives told view r (outcome bytes) → IfErr r (λ b. MatchOption (told b) ⊤ (λ f. IsFirstFlaw bytes f.0 f.1))
  flaw_given (Ok v) e = tt
  flaw_given (Err (bad.At n w)) e = MatchResult-at_err (IsCommitText bytes) (λ f. IsFirstFlaw bytes f.0 f.1) (n, w) e (told_outcome bytes)
  flaw_given (Err bad.Memory) e = tt

  refused_at : (b : BadCommit) → MatchOption (told b) ⊤ (λ f. IsFirstFlaw bytes f.0 f.1) → MatchOption (told b) ⊤ (λ f. (actions : List Action) → IsCommitText bytes actions → ⊥)
  refused_at (bad.At n w) h = λ actions t. not_both bytes actions n w t h
  refused_at bad.Memory h = tt

  pub refused_given : (r : Result X BadCommit) → Gives told view r (outcome bytes) → IfErr r (λ b. MatchOption (told b) ⊤ (λ f. (actions : List Action) → IsCommitText bytes actions → ⊥))
  refused_given (Ok v) e = tt
  refused_given (Err b) e = refused_at b (flaw_given (Err b) e)

  pub commit_given : (r : Result X BadCommit) → Gives told view r (outcome bytes) → IfOk r (λ v. IsCommit (view v))
  commit_given (Ok v) e = MatchResult-at_ok IsCommit (λ f. ⊤) (view v) e (commit-outcome bytes)
  commit_given (Err b) e = tt

-- ---- writing

pub canonical_text-nil : canonical_text [] ≡ []
unfolding canonical_text
canonical_text-nil = refl

canonical_text-push : (done : List Action) (a : Action) → canonical_text (done ++ a ∷ []) ≡ canonical_text done ++ with_lf (canonical_line a)
unfolding canonical_text
canonical_text-push done a = flat_map-append (λ b. with_lf (canonical_line b)) done (a ∷ []) ∙ ap (λ l. canonical_text done ++ l) (append-nil (with_lf (canonical_line a)))

written-push : (done : List Action) (a : Action) → AreWritten done → IsWritten a → AreWritten (done ++ a ∷ [])
written-push [] a h w = (w, tt)
written-push (b ∷ done) a h w = (h.0, written-push done a h.1 w)

pub reads_back_given : {X E : Type 0} (items : X → List ℕ) (actions : List Action) (r : Result X E)
    → IsCommit actions → IfOk r (λ v. items v ≡ canonical_text actions) → OnOk r (AreWritten actions) → IfOk r (λ v. outcome (items v) ≡ Ok actions)
reads_back_given items actions (Ok v) c e w = ap outcome e ∙ outcome-canonical_text actions c w
reads_back_given items actions (Err x) c e w = tt

pub line_more : (xs : List Action) (i : ℕ) (a : Action) (text line : List ℕ) → take (i + 1) xs ≡ take i xs ++ a ∷ [] → text ≡ canonical_text (take i xs) → line ≡ canonical_line a
    → (text ++ line) ++ 10 ∷ [] ≡ canonical_text (take (i + 1) xs)
line_more xs i a text line more e same =
    append_assoc text line (10 ∷ []) ∙ ap (λ t. t ++ with_lf line) e ∙ ap (λ l. canonical_text (take i xs) ++ with_lf l) same ∙ sym (canonical_text-push (take i xs) a) ∙ ap canonical_text (sym more)

pub written_more : (xs : List Action) (i : ℕ) (a : Action) → take (i + 1) xs ≡ take i xs ++ a ∷ [] → AreWritten (take i xs) → IsWritten a → AreWritten (take (i + 1) xs)
written_more xs i a more h w = subst AreWritten (sym more) (written-push (take i xs) a h w)
