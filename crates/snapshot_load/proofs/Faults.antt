-- The caller's count of faults, from one turn and over several.
use Rattle.std.proofs.Common.{◌≡◌, inl, inr, ℕ, List, Bool, ◌∙◌, ap, arith}
use Rattle.std.specs.Prelude.{Result, Ok, Err}
use Rattle.log_names.specs.declared.LogName.{LogName}
use Rattle.log_names.specs.declared.LogName.TheVariants as name
use Rattle.table_model.specs.declared.answers.Spot.{Spot}
use Rattle.table_model.specs.declared.answers.StepFault.{StepFault}
use Rattle.table_model.specs.declared.answers.StepFault.TheVariants as step
use Rattle.table_model.specs.Knowledge.{Knowledge}
use Rattle.table_model.specs.Learning.{IsFaultAt, WholeLearnt}
use Rattle.snapshot_load.specs.declared.errors.LoadError.{LoadError}
use Rattle.snapshot_load.specs.declared.errors.LoadError.TheVariants.{NoTable, AfterLatest, BeforeFirst, Fault, Memory}
use Rattle.snapshot_load.specs.Causes.{CountsError, CountsFaults}
use Rattle.snapshot_load.specs.Converting.{of_fault}

-- a refused turn at a spot
pub turn_counts : (tells : Bool) (at : Spot) (k : Knowledge) (f : StepFault) (m : Knowledge) → IsFaultAt at k f m → CountsError tells k (of_fault f) m
turn_counts tells at k (step.Fault found) m h = let e = ap (λ (x : Knowledge). x.faults) h.1 in inl (omega (arith, e))
turn_counts tells at k step.Memory m h = ap (λ (x : Knowledge). x.faults) h

-- after turns that met no fault

pub error_counts : (tells : Bool) (e : LoadError) (j k m : Knowledge) → k.faults ≡ j.faults → CountsError tells k e m → CountsError tells j e m
error_counts tells NoTable j k m g h = h ∙ g
error_counts tells (AfterLatest version latest) j k m g h = h ∙ g
error_counts tells (BeforeFirst first latest) j k m g h = h ∙ g
error_counts tells (Fault at) j k m g (inl h) = inl (omega (arith, g, h))
error_counts tells (Fault at) j k m g (inr h) = inr (h.0, h.1 ∙ g)
error_counts tells Memory j k m g h = h ∙ g

pub answer_counts : {A : Type 0} (tells : Bool) (r : Result A LoadError) (j k m : Knowledge) → k.faults ≡ j.faults
    → CountsFaults tells k r m → CountsFaults tells j r m
answer_counts tells (Ok x) j k m g h = h ∙ g
answer_counts tells (Err e) j k m g h = error_counts tells e j k m g h

-- a file was read
pub whole_counts : (tells : Bool) (n : LogName) (text : List ℕ) (k m : Knowledge) → WholeLearnt tells n text k m → m.faults ≡ k.faults
whole_counts tells (name.Published v) text k m h = ap (λ (x : Knowledge). x.faults) h.same
whole_counts tells (name.Staged v i) text k m h = ap (λ (x : Knowledge). x.faults) h.same
whole_counts tells (name.Checkpoint v i) text k m h = ap (λ (x : Knowledge). x.faults) h.same
whole_counts tells (name.Parquet v) text k m h = ap (λ (x : Knowledge). x.faults) h.same
whole_counts tells name.Other text k m h = ap (λ (x : Knowledge). x.faults) h.same
