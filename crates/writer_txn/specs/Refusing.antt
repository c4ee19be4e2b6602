-- Why a create or an append was not composed.
use Rattle.std.specs.Prelude.{ℕ, ℤ, ◌<◌, Option, Some, ⊤}
use Rattle.staged_commit.specs.declared.create.Create.{Create}
use Rattle.staged_commit.specs.declared.fault.ComposeError.{ComposeError}
use Rattle.staged_commit.specs.declared.fault.ComposeError.TheVariants as fault
use Rattle.writer_txn.specs.Creating.{IsBrokenCreate, IsLongCreate}
use Rattle.writer_txn.specs.declared.errors.WriteError.{WriteError}
use Rattle.writer_txn.specs.declared.errors.WriteError.TheVariants as failed

-- the text of the create is longer than the limit
pub record IsOverLimit (create : Create) (id : ℕ) (now : ℤ) (limit : ℕ) (base : Option ℕ) (bytes : ℕ) : Type 0 where
  pub long : IsLongCreate create base bytes now id
  pub above : limit < bytes

abbrev pub CreateRefused : Create → ℕ → ℤ → ℕ → WriteError → Type 0
CreateRefused create id now limit failed.NoTable = ⊥
CreateRefused create id now limit (failed.Exists latest) = ⊥
CreateRefused create id now limit (failed.Broken base why) = IsBrokenCreate create base why now id
CreateRefused create id now limit (failed.Conflict base winner rule key vector latest) = ⊥
CreateRefused create id now limit (failed.Contended attempts latest) = ⊥
CreateRefused create id now limit (failed.Full latest) = ⊥
CreateRefused create id now limit (failed.TimeEnd base end) = ⊥
CreateRefused create id now limit (failed.TooLarge base bytes) = IsOverLimit create id now limit base bytes
CreateRefused create id now limit (failed.Taken base version taken) = ⊥
CreateRefused create id now limit (failed.Fault at) = ⊥
CreateRefused create id now limit failed.Memory = ⊤

-- why an append was not composed, as the error of a write
abbrev pub of_compose : ℕ → ComposeError → WriteError
of_compose base (fault.Broken why) = failed.Broken (Some base) why
of_compose base (fault.TimeEnd last) = failed.TimeEnd base last
of_compose base (fault.TooLarge bytes) = failed.TooLarge (Some base) bytes
of_compose base fault.Memory = failed.Memory
