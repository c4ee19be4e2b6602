-- The caller's count of faults, from one turn and over several.
use Rattle.std.proofs.Common.{◌≡◌, inl, inr, ℕ, ℤ, Bool, ◌∙◌, ap, arith}
use Rattle.std.specs.Prelude.{Result, Ok, Err}
use Rattle.log_names.specs.declared.LogName.{LogName}
use Rattle.staged_commit.specs.declared.create.Create.{Create}
use Rattle.staged_commit.specs.declared.fault.ComposeError.{ComposeError}
use Rattle.staged_commit.specs.declared.fault.ComposeError.TheVariants as fault
use Rattle.table_model.specs.declared.answers.StepFault.{StepFault}
use Rattle.table_model.specs.declared.answers.StepFault.TheVariants as step
use Rattle.table_model.specs.Knowledge.{Knowledge}
use Rattle.table_model.specs.Learning.{IsOnlyMemory, IsFaultPutting}
use Rattle.snapshot_load.specs.declared.errors.LoadError.{LoadError}
use Rattle.snapshot_load.specs.declared.errors.LoadError.TheVariants as load
use Rattle.snapshot_load.specs.Causes.{CountsError as LoadCounts}
use Rattle.writer_txn.specs.declared.attempts.Outcome.{Outcome}
use Rattle.writer_txn.specs.declared.errors.WriteError.{WriteError}
use Rattle.writer_txn.specs.declared.errors.WriteError.TheVariants as failed
use Rattle.writer_txn.specs.Converting.{of_fault, of_load}
use Rattle.writer_txn.specs.Counting.{CountsStop, CountsError, CountsFaults}
use Rattle.writer_txn.specs.Judging.{JudgedFrom}
use Rattle.writer_txn.specs.Refusing.{CreateRefused, of_compose}

-- one turn

pub memory_counts : (k : Knowledge) (f : StepFault) (m : Knowledge) → IsOnlyMemory k f m → CountsStop k f m
memory_counts k (step.Fault at) m h = absurd h
memory_counts k step.Memory m h = ap (λ (x : Knowledge). x.faults) h

pub putting_counts : (n : LogName) (k : Knowledge) (f : StepFault) (m : Knowledge) → IsFaultPutting n k f m → CountsStop k f m
putting_counts n k (step.Fault at) m h = ap (λ (x : Knowledge). x.faults) h.1
putting_counts n k step.Memory m h = ap (λ (x : Knowledge). x.faults) h

-- after turns that met no fault

pub stop_later : (f : StepFault) (j k m : Knowledge) → k.faults ≡ j.faults → CountsStop k f m → CountsStop j f m
stop_later (step.Fault at) j k m g h = omega (arith, g, h)
stop_later step.Memory j k m g h = h ∙ g

pub error_later : (tells : Bool) (e : WriteError) (j k m : Knowledge) → k.faults ≡ j.faults → CountsError tells k e m → CountsError tells j e m
error_later tells failed.NoTable j k m g h = h ∙ g
error_later tells (failed.Exists latest) j k m g h = h ∙ g
error_later tells (failed.Broken base why) j k m g h = h ∙ g
error_later tells (failed.Conflict base winner rule key vector latest) j k m g h = h ∙ g
error_later tells (failed.Contended attempts latest) j k m g h = h ∙ g
error_later tells (failed.Full latest) j k m g h = h ∙ g
error_later tells (failed.TimeEnd base end) j k m g h = h ∙ g
error_later tells (failed.TooLarge base bytes) j k m g h = h ∙ g
error_later tells (failed.Taken base version id) j k m g h = h ∙ g
error_later tells (failed.Fault at) j k m g (inl h) = inl (omega (arith, g, h))
error_later tells (failed.Fault at) j k m g (inr h) = inr (h.0, h.1 ∙ g)
error_later tells failed.Memory j k m g h = h ∙ g

pub answer_later : {A : Type 0} (tells : Bool) (r : Result A WriteError) (j k m : Knowledge) → k.faults ≡ j.faults
    → CountsFaults tells k r m → CountsFaults tells j r m
answer_later tells (Ok x) j k m g h = h ∙ g
answer_later tells (Err e) j k m g h = error_later tells e j k m g h

-- as the errors of a write

pub of_turn : (tells : Bool) (f : StepFault) (k m : Knowledge) → CountsStop k f m → CountsError tells k (of_fault f) m
of_turn tells (step.Fault at) k m h = inl h
of_turn tells step.Memory k m h = h

pub of_loading : (tells : Bool) (e : LoadError) (k m : Knowledge) → LoadCounts tells k e m → CountsError tells k (of_load e) m
of_loading tells load.NoTable k m h = h
of_loading tells (load.AfterLatest version latest) k m h = h
of_loading tells (load.BeforeFirst first latest) k m h = h
of_loading tells (load.Fault at) k m h = h
of_loading tells load.Memory k m h = h

-- what is not composed, and what is judged, is no fault of the store

pub of_composing : (tells : Bool) (base : ℕ) (e : ComposeError) (k m : Knowledge) → m.faults ≡ k.faults → CountsError tells k (of_compose base e) m
of_composing tells base (fault.Broken why) k m h = h
of_composing tells base (fault.TimeEnd last) k m h = h
of_composing tells base (fault.TooLarge bytes) k m h = h
of_composing tells base fault.Memory k m h = h

pub refused_counts : (tells : Bool) (create : Create) (id : ℕ) (now : ℤ) (limit : ℕ) (e : WriteError) (k m : Knowledge) → CreateRefused create id now limit e
    → m.faults ≡ k.faults → CountsError tells k e m
refused_counts tells create id now limit failed.NoTable k m h same = same
refused_counts tells create id now limit (failed.Exists latest) k m h same = same
refused_counts tells create id now limit (failed.Broken base why) k m h same = same
refused_counts tells create id now limit (failed.Conflict base winner rule key vector latest) k m h same = same
refused_counts tells create id now limit (failed.Contended attempts latest) k m h same = same
refused_counts tells create id now limit (failed.Full latest) k m h same = same
refused_counts tells create id now limit (failed.TimeEnd base end) k m h same = same
refused_counts tells create id now limit (failed.TooLarge base bytes) k m h same = same
refused_counts tells create id now limit (failed.Taken base version taken) k m h same = same
refused_counts tells create id now limit (failed.Fault at) k m h same = absurd h
refused_counts tells create id now limit failed.Memory k m h same = same

pub judged_counts : (tells : Bool) (base latest : ℕ) (r : Result Outcome WriteError) (k m : Knowledge) → JudgedFrom base latest r → m.faults ≡ k.faults
    → CountsFaults tells k r m
judged_counts tells base latest (Ok answer) k m h same = same
judged_counts tells base latest (Err failed.NoTable) k m h same = same
judged_counts tells base latest (Err (failed.Exists l)) k m h same = same
judged_counts tells base latest (Err (failed.Broken b why)) k m h same = same
judged_counts tells base latest (Err (failed.Conflict b winner rule key vector l)) k m h same = same
judged_counts tells base latest (Err (failed.Contended attempts l)) k m h same = same
judged_counts tells base latest (Err (failed.Full l)) k m h same = same
judged_counts tells base latest (Err (failed.TimeEnd b end)) k m h same = same
judged_counts tells base latest (Err (failed.TooLarge b bytes)) k m h same = same
judged_counts tells base latest (Err (failed.Taken b version id)) k m h same = same
judged_counts tells base latest (Err (failed.Fault at)) k m h same = absurd h
judged_counts tells base latest (Err failed.Memory) k m h same = same
