-- Causes of refusals, from one turn and over several.
use Rattle.std.proofs.Common.{◌≡◌, ◌<◌, ◌≤◌, ◌+◌, inl, inr, ℕ, Bool, IsTrue, [], ◌∷◌, ◌++◌, length, refl, sym, ◌∙◌, ap, subst, arith, append_assoc, length-append}
use Rattle.std.specs.Prelude.{Contains, IfErr, Result, Ok, Err}
use Rattle.std.proofs.lemmas.List.Elements.{Contains-append_right}
use Rattle.log_names.specs.declared.LogName.TheVariants as name
use Rattle.table_model.specs.declared.answers.Spot.{Spot}
use Rattle.table_model.specs.declared.answers.Spot.TheVariants as spot
use Rattle.table_model.specs.declared.answers.StepFault.{StepFault}
use Rattle.table_model.specs.declared.answers.StepFault.TheVariants as step
use Rattle.table_model.specs.Knowledge.{Knowledge, IsGrown}
use Rattle.table_model.specs.Learning.{IsFaultAt, IsOnlyMemory, fault_noted, AbsentLearnt}
use Rattle.snapshot_load.specs.declared.errors.LoadError.{LoadError}
use Rattle.snapshot_load.specs.declared.errors.LoadError.TheVariants.{NoTable, AfterLatest, BeforeFirst, Fault, Memory}
use Rattle.snapshot_load.specs.Causes.{FailedAt, IsUntold, ReadCause, LoadCause, VersionCause}
use Rattle.snapshot_load.specs.Converting.{of_fault}

contains_one : (at : Spot) → Contains (at ∷ []) at
contains_one at = (0, omega arith, refl)

pub failed_at : (at : Spot) (k m : Knowledge) → m ≡ fault_noted at k → FailedAt at k m
failed_at at k m e =
    let now : FailedAt at k (fault_noted at k) = record { rose = omega arith; gained = record { rest = at ∷ []; is = refl }; noted = contains_one at } in
    subst (FailedAt at k) (sym e) now

-- a turn that reads at a spot
pub read_refused : (tells : Bool) (at : Spot) (k : Knowledge) (f : StepFault) (m : Knowledge) → IsFaultAt at k f m → ReadCause tells (of_fault f) k m
read_refused tells at k (step.Fault found) m h = inl (failed_at found k m h.1)
read_refused tells at k step.Memory m h = tt

-- what was gained later was gained
pub failed_later : (at : Spot) (j k m : Knowledge) → IsGrown j k → FailedAt at k m → FailedAt at j m
failed_later at j k m g h = record {
  rose = omega (arith, g.faults, h.rose);
  gained = record { rest = g.failed.rest ++ h.gained.rest; is = h.gained.is ∙ ap (λ t. t ++ h.gained.rest) g.failed.is ∙ append_assoc j.failed g.failed.rest h.gained.rest };
  noted = Contains-append_right g.failed.rest h.gained.rest at h.noted;
}

pub cause_later : (tells : Bool) (e : LoadError) (j k m : Knowledge) → IsGrown j k → ReadCause tells e k m → ReadCause tells e j m
cause_later tells NoTable j k m g h = h
cause_later tells (AfterLatest version latest) j k m g h = h
cause_later tells (BeforeFirst first latest) j k m g h = h
cause_later tells (Fault at) j k m g (inl h) = inl (failed_later at j k m g h)
cause_later tells (Fault at) j k m g (inr h) = inr h
cause_later tells Memory j k m g h = tt

pub answer_later : {A : Type 0} (tells : Bool) (r : Result A LoadError) (j k m : Knowledge) → IsGrown j k
    → IfErr r (λ e. ReadCause tells e k m) → IfErr r (λ e. ReadCause tells e j m)
answer_later tells (Ok x) j k m g h = h
answer_later tells (Err e) j k m g h = cause_later tells e j k m g h

-- a version that is known to be published and whose file is absent: the store does not tell
pub untold_file : (tells : Bool) (version : ℕ) (k m : Knowledge) → version < length k.seen → (IsTrue tells → version < k.published)
    → AbsentLearnt tells (name.Published version) k m → IsUntold tells (spot.File (name.Published version)) m.seen
untold_file tells version k m ratified published learnt =
    let same : length m.seen ≡ length k.seen = ap (λ (x : Knowledge). length x.seen) learnt.same in
    record {
      untold = λ t. absurd (omega (arith, learnt.missing t, published t));
      version = version;
      ratified = omega arith;
      file = inl refl;
    }

-- a refused reading within a load of a table that has a commit
pub load_cause : (tells : Bool) (e : LoadError) (j k m : Knowledge) → IsGrown j k → 0 < length m.seen → ReadCause tells e k m → LoadCause tells e j m
load_cause tells NoTable j k m g some h = absurd h
load_cause tells (AfterLatest version latest) j k m g some h = h
load_cause tells (BeforeFirst first latest) j k m g some h = h
load_cause tells (Fault at) j k m g some h = (cause_later tells (Fault at) j k m g h, some)
load_cause tells Memory j k m g some h = λ asked. some

pub answer_cause : {A : Type 0} (tells : Bool) (r : Result A LoadError) (j k m : Knowledge) → IsGrown j k → 0 < length m.seen
    → IfErr r (λ e. ReadCause tells e k m) → IfErr r (λ e. LoadCause tells e j m)
answer_cause tells (Ok x) j k m g some h = h
answer_cause tells (Err e) j k m g some h = load_cause tells e j k m g some h

-- a refused reading within a load of an asked version that was ratified
pub version_cause : (tells : Bool) (asked : ℕ) (e : LoadError) (j k m : Knowledge) → IsGrown j k → asked < length m.seen → ReadCause tells e k m → VersionCause tells asked e j m
version_cause tells asked NoTable j k m g some h = absurd h
version_cause tells asked (AfterLatest version latest) j k m g some h = absurd h
version_cause tells asked (BeforeFirst first latest) j k m g some h = h
version_cause tells asked (Fault at) j k m g some h = (cause_later tells (Fault at) j k m g h, some)
version_cause tells asked Memory j k m g some h = λ was. some

pub answer_version : {A : Type 0} (tells : Bool) (asked : ℕ) (r : Result A LoadError) (j k m : Knowledge) → IsGrown j k → asked < length m.seen
    → IfErr r (λ e. ReadCause tells e k m) → IfErr r (λ e. VersionCause tells asked e j m)
answer_version tells asked (Ok x) j k m g some h = h
answer_version tells asked (Err e) j k m g some h = version_cause tells asked e j k m g some h

pub version_unasked : (tells : Bool) (asked : ℕ) (k : Knowledge) (f : StepFault) (m : Knowledge) → IsOnlyMemory k f m → VersionCause tells asked (of_fault f) k m
version_unasked tells asked k (step.Fault at) m h = absurd h
version_unasked tells asked k step.Memory m h = λ was. (let same = ap (λ (x : Knowledge). x.asks) h in absurd (omega (arith, same, was)))

-- the catalogue was not asked
pub asking_refused : (tells : Bool) (k : Knowledge) (f : StepFault) (m : Knowledge) → IsOnlyMemory k f m → LoadCause tells (of_fault f) k m
asking_refused tells k (step.Fault at) m h = absurd h
asking_refused tells k step.Memory m h = λ asked. (let same = ap (λ (x : Knowledge). x.asks) h in absurd (omega (arith, same, asked)))

-- what was seen is not fewer later
pub seen_more : (k m : Knowledge) → IsGrown k m → length k.seen ≤ length m.seen
seen_more k m g = let e = ap length g.seen.is in let f = length-append k.seen g.seen.rest in omega (arith, e, f)
