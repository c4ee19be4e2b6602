-- Causes of a refused load by time, and the version of a load by time.
use Rattle.std.proofs.Common.{◌≡◌, ◌<◌, ◌+◌, ℕ, ℤ, Bool, IsTrue, List, length, sym, ◌∙◌, ap, subst, arith}
use Rattle.std.specs.Prelude.{◌<ℤ◌, Option, None, Some, Result, Ok, Err, IfOk, IfErr}
use Rattle.std.proofs.lemmas.List.{length-map, get_or-map}
use Rattle.commit_timestamps.specs.Times.{IsVersionAt}
use Rattle.table_model.specs.declared.answers.StepFault.{StepFault}
use Rattle.table_model.specs.declared.answers.StepFault.TheVariants as step
use Rattle.table_model.specs.declared.snapshot.Snapshot.{Snapshot}
use Rattle.table_model.specs.Log.{Commit, commit_at, commit_time, no_commit}
use Rattle.table_model.specs.Knowledge.{Knowledge, IsGrown}
use Rattle.table_model.specs.Learning.{IsOnlyMemory}
use Rattle.snapshot_load.specs.declared.errors.LoadError.{LoadError}
use Rattle.snapshot_load.specs.declared.errors.LoadError.TheVariants.{NoTable, AfterLatest, BeforeFirst, Fault, Memory}
use Rattle.snapshot_load.specs.Causes.{ReadCause, TimeCause, FoundCause, IsBeforeFirst}
use Rattle.snapshot_load.specs.Converting.{of_fault}
use Rattle.snapshot_load.specs.Texts.{times_of}
use Rattle.snapshot_load.proofs.Causing.{cause_later}

-- every time of a log is after this one: so is the first
first_after : (seen : List Commit) (asked : ℤ) → 0 < length seen → IsVersionAt (times_of seen) asked None → asked <ℤ commit_time (commit_at seen 0).bytes
first_after seen asked some none =
    let e = length-map seen (λ (c : Commit). commit_time c.bytes) in
    subst (λ (t : ℤ). asked <ℤ t) (get_or-map (λ (c : Commit). commit_time c.bytes) seen 0 no_commit (commit_time no_commit.bytes) some)
    (none 0 (commit_time no_commit.bytes) (omega (arith, e, some)))

pub time_found : (tells : Bool) (asked : ℤ) (found : Option ℕ) (e : LoadError) (j k m : Knowledge) → IsGrown j k → 0 < length m.seen
    → (IsTrue tells → IsVersionAt (times_of m.seen) asked found) → FoundCause tells found e k m → TimeCause tells asked e j m
time_found tells asked found NoTable j k m g some at h = absurd h
time_found tells asked found (AfterLatest version latest) j k m g some at h = h
time_found tells asked found (BeforeFirst first latest) j k m g some at h = record {
  last = h.last;
  first_is = h.first_is;
  before =
      λ t. subst (λ (x : ℤ). asked <ℤ x) (sym (h.first_is t))
      (first_after m.seen asked some (subst (λ (o : Option ℕ). IsVersionAt (times_of m.seen) asked o) h.none (at t)));
}
time_found tells asked found (Fault at_spot) j k m g some at h = (cause_later tells (Fault at_spot) j k m g h, some)
time_found tells asked found Memory j k m g some at h = λ was. some

pub answer_time : {A : Type 0} (tells : Bool) (asked : ℤ) (found : Option ℕ) (r : Result A LoadError) (j k m : Knowledge) → IsGrown j k → 0 < length m.seen
    → (IsTrue tells → IsVersionAt (times_of m.seen) asked found) → IfErr r (λ e. FoundCause tells found e k m) → IfErr r (λ e. TimeCause tells asked e j m)
answer_time tells asked found (Ok x) j k m g some at h = h
answer_time tells asked found (Err e) j k m g some at h = time_found tells asked found e j k m g some at h

pub time_read : (tells : Bool) (asked : ℤ) (e : LoadError) (j k m : Knowledge) → IsGrown j k → 0 < length m.seen → ReadCause tells e k m → TimeCause tells asked e j m
time_read tells asked NoTable j k m g some h = absurd h
time_read tells asked (AfterLatest version latest) j k m g some h = h
time_read tells asked (BeforeFirst first latest) j k m g some h = absurd h
time_read tells asked (Fault at) j k m g some h = (cause_later tells (Fault at) j k m g h, some)
time_read tells asked Memory j k m g some h = λ was. some

pub time_unasked : (tells : Bool) (asked : ℤ) (k : Knowledge) (f : StepFault) (m : Knowledge) → IsOnlyMemory k f m → TimeCause tells asked (of_fault f) k m
time_unasked tells asked k (step.Fault at) m h = absurd h
time_unasked tells asked k step.Memory m h = λ was. (let same = ap (λ (x : Knowledge). x.asks) h in absurd (omega (arith, same, was)))

pub version_found : (tells : Bool) (seen : List Commit) (asked : ℤ) (found : Option ℕ) (r : Result Snapshot LoadError)
    → (IsTrue tells → IsVersionAt (times_of seen) asked found) → IfOk r (λ s. found ≡ Some s.version)
    → IfOk r (λ s. IsTrue tells → IsVersionAt (times_of seen) asked (Some s.version))
version_found tells seen asked found (Ok s) at is = λ t. subst (λ (o : Option ℕ). IsVersionAt (times_of seen) asked o) is (at t)
version_found tells seen asked found (Err e) at is = is
