-- The tests of the conditions of other callers' turns.
use Rattle.std.proofs.Common.{◌≡◌, ◌≢◌, ◌<◌, ◌≤◌, ℕ, Bool, false, List, [], ◌∷◌, length, refl, sym, ◌∙◌, ap, subst, arith, Option, Some, None, IsTrue, unwrap_or}
use Rattle.std.specs.Prelude.{◌↔◌, ℤ, pos}
use Rattle.std.proofs.lemmas.Bool.{false≢true}
use Rattle.log_names.specs.declared.LogName.TheVariants as name
use Rattle.action_types.specs.declared.actions.Action.{Action}
use Rattle.action_json.specs.Text.{IsCommitText, actions_of}
use Rattle.reconcile.specs.Replay.{time_of_log}
use Rattle.reconcile.specs.declared.State.{State}
use Rattle.reconcile.specs.Standing.{StandsFor}
use Rattle.table_rules.specs.Broken.{first_broken, TellsOf, told}
use Rattle.table_rules.specs.declared.broken.Broken.{Broken}
use Rattle.table_rules.specs.declared.broken.Broken.TheVariants as broken
use Rattle.table_model.specs.Log.{Commit, commit_at, commit_time, history}
use Rattle.table_model.specs.Files.{file_at}
use Rattle.table_model.specs.World.{WorldData, log_of}
use Rattle.table_meddler.proofs.ReadWorlds.{read_log}
use Rattle.table_meddler.specs.Others.{IsRead, ArePublished, IsNextIn, IsCommitOf}
use Rattle.table_meddler.specs.Judging.{Tests}

pub same_bytes : (o : Option (List ℕ)) (a b : List ℕ) → o ≡ Some a → o ≡ Some b → a ≡ b
same_bytes o a b e f = let g : Some a ≡ Some b = sym e ∙ f in cc

-- an answer that is false where the condition fails
pub tests_not : (tells : Bool) (P : Type 0) → (IsTrue tells → ¬ P) → Tests tells false P
tests_not tells P never = λ t. (λ e. absurd (false≢true e), λ p. absurd (never t p))

-- a rule that is named is broken
pub some_broken : (found : Option Broken) (b : Broken) → b ≢ broken.Memory → TellsOf (told b) found → found ≢ None
some_broken found broken.Memory other h e = absurd (other refl)
some_broken found b other h e = let k : None ≡ Some b = sym e ∙ h in cc

pub not_next : (w : WorldData) (version id : ℕ) (time : ℤ) → version ≢ length w.records → ¬ (IsNextIn w version id time)
not_next w version id time differ = λ h. differ h.next_version

pub not_staged : (w : WorldData) (version id : ℕ) (time : ℤ) → file_at w.files (name.Staged version id) ≡ None → ¬ (IsNextIn w version id time)
not_staged w version id time gone = λ h. (let e : None ≡ Some h.bytes = sym gone ∙ h.staged in cc)

pub not_text : (w : WorldData) (version id : ℕ) (time : ℤ) (bytes : List ℕ) → file_at w.files (name.Staged version id) ≡ Some bytes
    → ¬ (IsCommitText bytes (actions_of bytes)) → ¬ (IsNextIn w version id time)
not_text w version id time bytes there never = λ h. (
    let e : h.bytes ≡ bytes = same_bytes _ _ _ h.staged there in
    never (subst (λ (b : List ℕ). IsCommitText b (actions_of b)) e h.next.text)
    )

pub time_is : (bytes : List ℕ) (actions : List Action) → actions ≡ actions_of bytes → unwrap_or (time_of_log (actions ∷ [])) (pos 0) ≡ commit_time bytes
unfolding commit_time
time_is bytes actions e = ap (λ (a : List Action). unwrap_or (time_of_log (a ∷ [])) (pos 0)) e

-- the same, by the text that was read
pub timed_as : (bytes text : List ℕ) (actions items : List Action) (time : ℤ) → text ≡ bytes → items ≡ actions_of text → actions ≡ items
    → time ≡ unwrap_or (time_of_log (actions ∷ [])) (pos 0) → time ≡ commit_time bytes
timed_as bytes text actions items time e f h is = is ∙ time_is bytes actions (h ∙ f ∙ ap actions_of e)

pub text_as : (bytes text : List ℕ) → text ≡ bytes → IsCommitText text (actions_of text) → IsCommitText bytes (actions_of bytes)
text_as bytes text e h = subst (λ (b : List ℕ). IsCommitText b (actions_of b)) e h

pub state_on : (s : State) (w x : WorldData) → IsRead w x → StandsFor s (history (log_of x)) → StandsFor s (history (log_of w))
state_on s w x r h = subst (λ (l : List Commit). StandsFor s (history l)) (read_log w x r) h

pub not_timed : (w : WorldData) (version id : ℕ) (time : ℤ) (bytes : List ℕ) → file_at w.files (name.Staged version id) ≡ Some bytes
    → time ≢ commit_time bytes → ¬ (IsNextIn w version id time)
not_timed w version id time bytes there differ = λ h. differ (h.timed ∙ ap commit_time (same_bytes _ _ _ h.staged there))

pub next_by_rules : (w : WorldData) (version id : ℕ) (time : ℤ) (bytes : List ℕ) (actions : List Action) (answer : Bool) → version ≡ length w.records
    → file_at w.files (name.Staged version id) ≡ Some bytes → IsCommitText bytes (actions_of bytes) → actions ≡ actions_of bytes → time ≡ commit_time bytes
    → (IsTrue answer ↔ (first_broken (history (log_of w)) actions ≡ None)) → IsTrue answer ↔ IsNextIn w version id time
next_by_rules w version id time bytes actions answer next there text is timed rules_kept = (
  λ yes. record {
    next_version = next;
    bytes = bytes;
    staged = there;
    next = record { text = text; rules = ap (first_broken (history (log_of w))) (sym is) ∙ rules_kept.0 yes };
    timed = timed;
  },
  λ h. rules_kept.1 (
      ap (first_broken (history (log_of w))) is
      ∙ ap (λ (b : List ℕ). first_broken (history (log_of w)) (actions_of b)) (same_bytes _ _ _ there h.staged)
      ∙ h.next.rules
      ),
)

pub not_ratified : (w : WorldData) (version : ℕ) (text : List ℕ) → length w.records ≤ version → ¬ (IsCommitOf w version text)
not_ratified w version text above = λ h. (let r = h.ratified in absurd (omega arith))

pub not_its_bytes : (w : WorldData) (version : ℕ) (text bytes : List ℕ) → bytes ≡ (commit_at (log_of w) version).bytes → bytes ≢ text → ¬ (IsCommitOf w version text)
not_its_bytes w version text bytes is differ = λ h. differ (is ∙ sym h.text_is)

pub commit_tests : (w : WorldData) (version : ℕ) (text bytes : List ℕ) (answer : Bool) → version < length w.records → bytes ≡ (commit_at (log_of w) version).bytes
    → bytes ≡ text → (IsTrue answer ↔ ArePublished w version) → IsTrue answer ↔ IsCommitOf w version text
commit_tests w version text bytes answer less is same published = (
  λ yes. record { ratified = less; below = published.0 yes; text_is = sym same ∙ is },
  λ h. published.1 h.below,
)
