-- The caller's count of faults, from one turn and over several.
use Rattle.std.proofs.Common.{◌≡◌, inl, inr, Bool, ◌∙◌, ap, arith}
use Rattle.std.specs.Prelude.{Result, Ok, Err}
use Rattle.log_names.specs.declared.LogName.{LogName}
use Rattle.log_names.specs.declared.LogName.TheVariants as name
use Rattle.object_store.specs.declared.store.Bytes.{Bytes}
use Rattle.object_store.specs.declared.store.Bytes.TheVariants as bytes
use Rattle.table_model.specs.declared.answers.Spot.{Spot}
use Rattle.table_model.specs.declared.answers.StepFault.{StepFault}
use Rattle.table_model.specs.declared.answers.StepFault.TheVariants as step
use Rattle.table_model.specs.Knowledge.{Knowledge}
use Rattle.table_model.specs.Learning.{IsFaultAt, LearnsGet}
use Rattle.publisher.specs.declared.answers.PublishError.{PublishError}
use Rattle.publisher.specs.declared.answers.PublishError.TheVariants.{NoTable, Fault, Memory}
use Rattle.publisher.specs.Causes.{CountsError, CountsFaults}
use Rattle.publisher.specs.Converting.{of_fault}

-- a refused turn at a spot
pub turn_counts : (tells : Bool) (at : Spot) (k : Knowledge) (f : StepFault) (m : Knowledge) → IsFaultAt at k f m → CountsError tells k (of_fault f) m
turn_counts tells at k (step.Fault found) m h = let e = ap (λ (x : Knowledge). x.faults) h.1 in inl (omega (arith, e))
turn_counts tells at k step.Memory m h = ap (λ (x : Knowledge). x.faults) h

-- after turns that met no fault

pub error_counts : (tells : Bool) (e : PublishError) (j k m : Knowledge) → k.faults ≡ j.faults → CountsError tells k e m → CountsError tells j e m
error_counts tells NoTable j k m g h = h ∙ g
error_counts tells (Fault at) j k m g (inl h) = inl (omega (arith, g, h))
error_counts tells (Fault at) j k m g (inr h) = inr (h.0, h.1 ∙ g)
error_counts tells Memory j k m g h = h ∙ g

pub answer_counts : {A : Type 0} (tells : Bool) (r : Result A PublishError) (j k m : Knowledge) → k.faults ≡ j.faults
    → CountsFaults tells k r m → CountsFaults tells j r m
answer_counts tells (Ok x) j k m g h = h ∙ g
answer_counts tells (Err e) j k m g h = error_counts tells e j k m g h

-- a file was read, or found absent
pub get_counts : (tells : Bool) (n : LogName) (k : Knowledge) (b : Bytes) (m : Knowledge) → LearnsGet tells n k (Ok b) m → m.faults ≡ k.faults
get_counts tells n k bytes.Absent m h = ap (λ (x : Knowledge). x.faults) h.same
get_counts tells (name.Published v) k (bytes.Whole b) m h = ap (λ (x : Knowledge). x.faults) h.same
get_counts tells (name.Staged v i) k (bytes.Whole b) m h = ap (λ (x : Knowledge). x.faults) h.same
get_counts tells (name.Checkpoint v i) k (bytes.Whole b) m h = ap (λ (x : Knowledge). x.faults) h.same
get_counts tells (name.Parquet v) k (bytes.Whole b) m h = ap (λ (x : Knowledge). x.faults) h.same
get_counts tells name.Other k (bytes.Whole b) m h = ap (λ (x : Knowledge). x.faults) h.same
