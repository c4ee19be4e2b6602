-- What comes of a commit that is staged for the next version and handed to the catalogue.
use Rattle.std.specs.Prelude.{◌≡◌, ◌<◌, ◌≤◌, ◌+◌, ◌++◌, ◌∷◌, [], ℕ, List, length, Bool, IsTrue, IfSome, IsSomeAnd, Contains, Option, Result, Ok, Err, ⊤}
use Rattle.log_names.specs.declared.LogName.{LogName}
use Rattle.log_names.specs.declared.LogName.TheVariants as name
use Rattle.table_model.specs.declared.answers.StepFault.{StepFault}
use Rattle.table_model.specs.declared.answers.StepFault.TheVariants as step
use Rattle.table_model.specs.declared.known.Refusal.TheVariants as refusal
use Rattle.table_model.specs.Knowledge.{Knowledge, Terms, StartsWith}
use Rattle.table_model.specs.Conditions.{triple}
use Rattle.snapshot_load.specs.Causes.{FailedAt}
use Rattle.writer_txn.specs.declared.proposing.Proposed.{Proposed}
use Rattle.writer_txn.specs.declared.proposing.Proposed.TheVariants as proposed

-- the terms are known, and where the backlog is at its limit at this version, so is the table; of a first commit nothing is asked
abbrev pub HasRoom : ℕ → Option Terms → Type 0
HasRoom version terms = 0 < version → IsSomeAnd terms (λ t. t.limits.unpublished ≤ version → t.limits.versions ≤ version)

-- no other name than this one was put
pub record PutsOnly (n : LogName) (k m : Knowledge) : Type 0 where
  pub put : StartsWith m.put k.put
  pub only : (x : LogName) → Contains put.rest x → x ≡ n

-- the commit was staged
abbrev pub staged_noted : ℕ → ℕ → List ℕ → Knowledge → Knowledge
staged_noted version id bytes k = record k { kept = k.kept ++ triple version id bytes ∷ []; put = k.put ++ name.Staged version id ∷ [] }

-- it is the last one of the log, and the caller's own
pub record IsRatified (tells : Bool) (version id : ℕ) (bytes : List ℕ) (k m : Knowledge) : Type 0 where
  pub same : m ≡ record (staged_noted version id bytes k) { seen = m.seen; mine = k.mine ++ version ∷ [] }
  pub text : List ℕ
  pub seen : m.seen ≡ k.seen ++ record { id = id; bytes = text } ∷ []
  pub text_is : IsTrue tells → text ≡ bytes

-- another commit is that version
pub record HasLost (version id latest : ℕ) (bytes : List ℕ) (k m : Knowledge) : Type 0 where
  pub same : m ≡ record (staged_noted version id bytes k) {
    seen = m.seen;
    tries = k.tries ++ record { version = version; answer = refusal.Lost } ∷ [];
  }
  pub last : latest + 1 ≡ length m.seen
  pub later : version ≤ latest

-- no version is left
pub record IsRefusedFull (version id latest : ℕ) (bytes : List ℕ) (k m : Knowledge) : Type 0 where
  pub same : m ≡ staged_noted version id bytes k
  pub last : latest + 1 ≡ length k.seen
  pub limit : IfSome k.terms (λ t. version ≡ t.limits.versions)

-- the store failed, or memory ran out
abbrev pub StepCause : StepFault → Knowledge → Knowledge → Type 0
StepCause (step.Fault at) k m = FailedAt at k m
StepCause step.Memory k m = ⊤

pub record HasStopped (fault : StepFault) (k m : Knowledge) : Type 0 where
  pub cause : StepCause fault k m
  pub mine : m.mine ≡ k.mine

abbrev pub ProposedNow : Bool → ℕ → ℕ → List ℕ → Knowledge → Result Proposed StepFault → Knowledge → Type 0
ProposedNow tells version id bytes k (Ok proposed.Done) m = IsRatified tells version id bytes k m
ProposedNow tells version id bytes k (Ok (proposed.Lost latest)) m = HasLost version id latest bytes k m
ProposedNow tells version id bytes k (Ok (proposed.Full latest)) m = IsRefusedFull version id latest bytes k m
ProposedNow tells version id bytes k (Ok proposed.Taken) m = m ≡ record k { takens = k.takens ++ name.Staged version id ∷ [] }
ProposedNow tells version id bytes k (Err fault) m = HasStopped fault k m
