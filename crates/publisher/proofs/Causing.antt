-- Causes of refusals, from one turn and over several.
use Rattle.std.proofs.Common.{◌≡◌, ◌<◌, ◌≤◌, inl, inr, Bool, [], ◌∷◌, ◌++◌, length, refl, sym, ◌∙◌, ap, subst, arith, append_assoc, length-append}
use Rattle.std.specs.Prelude.{Contains, IfErr, Result, Ok, Err}
use Rattle.std.proofs.lemmas.List.Elements.{Contains-append_right}
use Rattle.table_model.specs.declared.answers.Spot.{Spot}
use Rattle.table_model.specs.declared.answers.StepFault.{StepFault}
use Rattle.table_model.specs.declared.answers.StepFault.TheVariants as step
use Rattle.table_model.specs.Knowledge.{Knowledge, IsGrown}
use Rattle.table_model.specs.Learning.{IsFaultAt, fault_noted}
use Rattle.publisher.specs.declared.answers.PublishError.{PublishError}
use Rattle.publisher.specs.declared.answers.PublishError.TheVariants.{NoTable, Fault, Memory}
use Rattle.publisher.specs.Causes.{FailedAt, FaultCause, TurnCause, PublishCause}
use Rattle.publisher.specs.Converting.{of_fault}

contains_one : (at : Spot) → Contains (at ∷ []) at
contains_one at = (0, omega arith, refl)

pub failed_at : (at : Spot) (k m : Knowledge) → m ≡ fault_noted at k → FailedAt at k m
failed_at at k m e =
    let now : FailedAt at k (fault_noted at k) = record { rose = omega arith; gained = record { rest = at ∷ []; is = refl }; noted = contains_one at } in
    subst (FailedAt at k) (sym e) now

-- a turn at a spot
pub turn_refused : (tells : Bool) (at : Spot) (k : Knowledge) (f : StepFault) (m : Knowledge) → IsFaultAt at k f m → TurnCause tells (of_fault f) k m
turn_refused tells at k (step.Fault found) m h = inl (failed_at found k m h.1)
turn_refused tells at k step.Memory m h = tt

-- what was gained later was gained
pub failed_later : (at : Spot) (j k m : Knowledge) → IsGrown j k → FailedAt at k m → FailedAt at j m
failed_later at j k m g h = record {
  rose = omega (arith, g.faults, h.rose);
  gained = record { rest = g.failed.rest ++ h.gained.rest; is = h.gained.is ∙ ap (λ t. t ++ h.gained.rest) g.failed.is ∙ append_assoc j.failed g.failed.rest h.gained.rest };
  noted = Contains-append_right g.failed.rest h.gained.rest at h.noted;
}

pub fault_later : (tells : Bool) (at : Spot) (j k m : Knowledge) → IsGrown j k → FaultCause tells at k m → FaultCause tells at j m
fault_later tells at j k m g (inl h) = inl (failed_later at j k m g h)
fault_later tells at j k m g (inr h) = inr h

pub cause_later : (tells : Bool) (e : PublishError) (j k m : Knowledge) → IsGrown j k → TurnCause tells e k m → TurnCause tells e j m
cause_later tells NoTable j k m g h = h
cause_later tells (Fault at) j k m g h = fault_later tells at j k m g h
cause_later tells Memory j k m g h = tt

pub answer_later : {A : Type 0} (tells : Bool) (r : Result A PublishError) (j k m : Knowledge) → IsGrown j k
    → IfErr r (λ e. TurnCause tells e k m) → IfErr r (λ e. TurnCause tells e j m)
answer_later tells (Ok x) j k m g h = h
answer_later tells (Err e) j k m g h = cause_later tells e j k m g h

-- a refused turn of a table that has a commit
pub table_cause : (tells : Bool) (e : PublishError) (j k m : Knowledge) → IsGrown j k → 0 < length m.seen → TurnCause tells e k m → PublishCause tells e j m
table_cause tells NoTable j k m g some h = absurd h
table_cause tells (Fault at) j k m g some h = (fault_later tells at j k m g h, some)
table_cause tells Memory j k m g some h = λ more. some

-- what was seen is not fewer later
pub seen_more : (k m : Knowledge) → IsGrown k m → length k.seen ≤ length m.seen
seen_more k m g = let e = ap length g.seen.is in let f = length-append k.seen g.seen.rest in omega (arith, e, f)
