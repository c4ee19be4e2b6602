-- The caller's count of faults, by the answer.
use Rattle.std.specs.Prelude.{◌≡◌, ◌+◌, Bool, Result, Ok, Err}
use Rattle.table_model.specs.declared.answers.StepFault.{StepFault}
use Rattle.table_model.specs.declared.answers.StepFault.TheVariants as step
use Rattle.table_model.specs.Knowledge.{Knowledge}
use Rattle.snapshot_load.specs.Causes.{CountsFault}
use Rattle.writer_txn.specs.declared.errors.WriteError.{WriteError}
use Rattle.writer_txn.specs.declared.errors.WriteError.TheVariants as failed

-- a turn that the store fails raises it by one, and no other turn changes it
abbrev pub CountsStop : Knowledge → StepFault → Knowledge → Type 0
CountsStop k (step.Fault at) m = m.faults ≡ k.faults + 1
CountsStop k step.Memory m = m.faults ≡ k.faults

abbrev pub CountsTurns : {A : Type 0} → Knowledge → Result A StepFault → Knowledge → Type 0
CountsTurns k (Ok answer) m = m.faults ≡ k.faults
CountsTurns k (Err f) m = CountsStop k f m

-- a fault is answered: as `CountsFault` says; after every other answer the count is as before
abbrev pub CountsError : Bool → Knowledge → WriteError → Knowledge → Type 0
CountsError tells k failed.NoTable m = m.faults ≡ k.faults
CountsError tells k (failed.Exists latest) m = m.faults ≡ k.faults
CountsError tells k (failed.Broken base why) m = m.faults ≡ k.faults
CountsError tells k (failed.Conflict base winner rule key vector latest) m = m.faults ≡ k.faults
CountsError tells k (failed.Contended attempts latest) m = m.faults ≡ k.faults
CountsError tells k (failed.Full latest) m = m.faults ≡ k.faults
CountsError tells k (failed.TimeEnd base end) m = m.faults ≡ k.faults
CountsError tells k (failed.TooLarge base bytes) m = m.faults ≡ k.faults
CountsError tells k (failed.Taken base version id) m = m.faults ≡ k.faults
CountsError tells k (failed.Fault at) m = CountsFault tells k m
CountsError tells k failed.Memory m = m.faults ≡ k.faults

abbrev pub CountsFaults : {A : Type 0} → Bool → Knowledge → Result A WriteError → Knowledge → Type 0
CountsFaults tells k (Ok answer) m = m.faults ≡ k.faults
CountsFaults tells k (Err e) m = CountsError tells k e m
