-- A write begins with a load.
use Rattle.std.proofs.Common.{◌≡◌, ◌<◌, ◌≤◌, ◌+◌, ◌<ℤ◌, ℕ, ℤ, Bool, IsTrue, List, [], length, take, drop, refl, sym, ◌∙◌, ap, subst, arith, append-nil}
use Rattle.std.specs.Prelude.{IfSome, Err}
use Rattle.std.proofs.lemmas.List.{nil_from_length, length-drop, length-take-le}
use Rattle.std.proofs.lemmas.List.Elements.{All-nil}
use Rattle.reconcile.specs.Replay.{Log}
use Rattle.reconcile.specs.Standing.{StandsFor}
use Rattle.table_rules.specs.Seen.{number_in}
use Rattle.conflict_rules.specs.declared.intent.Intent.{Intent}
use Rattle.conflict_rules.specs.Conflict.{conflict_with, first_of}
use Rattle.table_model.specs.Log.{Commit, history}
use Rattle.table_model.specs.Knowledge.{Knowledge, IsGrown}
use Rattle.table_model.specs.declared.snapshot.Snapshot.{Snapshot}
use Rattle.snapshot_load.specs.declared.errors.LoadError.{LoadError}
use Rattle.snapshot_load.specs.declared.errors.LoadError.TheVariants as load
use Rattle.snapshot_load.specs.Snapshots.{IsSnapshot}
use Rattle.snapshot_load.specs.Reading.{OnlyLoads, HasAsked}
use Rattle.snapshot_load.specs.Causes.{LoadCause, UnlessMemory}
use Rattle.writer_txn.specs.Converting.{of_load}
use Rattle.writer_txn.specs.Fronts.{before, above}
use Rattle.writer_txn.specs.Writing.{WriteStands, IsAlready}
use Rattle.writer_txn.specs.Moments.{WrittenNow}
use Rattle.writer_txn.specs.Judging.{IsAtOrAbove}
use Rattle.writer_txn.specs.Trying.{IsFrontOf, IsUnderway}
use Rattle.writer_txn.proofs.Lasting.{length_kept}
use Rattle.writer_txn.proofs.Judgements.{newer_of, number_of}

-- the state that was loaded
loaded_state : (tells : Bool) (s : Snapshot) (log : List Commit) → IsSnapshot tells log s → s.version ≡ s.latest → IsTrue tells → StandsFor s.state (before (s.latest + 1) log)
loaded_state tells s log h newest t = subst (λ (n : ℕ). StandsFor s.state (before (n + 1) log)) newest (h.state t)

nothing_above : (log : List Commit) (base : ℕ) → base + 1 ≤ length log → above base (base + 1) log ≡ []
nothing_above log base within =
    ap history (nil_from_length (drop (base + 1) (take (base + 1) log)) (let a = length-drop (base + 1) (take (base + 1) log) in let b = length-take-le (base + 1) log within in omega (arith, a, b)))

pub loaded_front : (tells : Bool) (intent : Intent) (s : Snapshot) (log : List Commit) → IsSnapshot tells log s → s.version ≡ s.latest
    → IfSome (number_in s.state intent.app) (λ recorded. recorded <ℤ intent.number)
    → IsFrontOf tells intent (record { base = s.latest; latest = s.latest; state = s.state }) log
loaded_front tells intent s log h newest newer =
    let last = h.latest in
    record {
      within = omega (arith, last);
      base = omega arith;
      state = loaded_state tells s log h newest;
      number_at_base = λ t. newer_of intent s.state (before (s.latest + 1) log) (loaded_state tells s log h newest t) newer;
      number = λ t. newer_of intent s.state (before (s.latest + 1) log) (loaded_state tells s log h newest t) newer;
      conflicts = λ t.
          ap (λ (ws : Log). first_of (conflict_with intent (before (s.latest + 1) log)) (s.latest + 1) ws) (nothing_above log s.latest (omega (arith, last)));
    }

pub loaded_already : (tells : Bool) (intent : Intent) (s : Snapshot) (log : List Commit) (recorded : ℤ) → IsSnapshot tells log s → s.version ≡ s.latest
    → IsAtOrAbove intent (number_in s.state intent.app) recorded → IsAlready tells intent recorded s.latest log
loaded_already tells intent s log recorded h newest at = record {
  latest_is = (let last = h.latest in omega (arith, last));
  reached = at.reached;
  number = λ t. sym (number_of intent s.state (before (s.latest + 1) log) (loaded_state tells s log h newest t)) ∙ at.recorded_is;
}

pub loaded_underway : (lists versions latest : ℕ) (k m : Knowledge) → HasAsked k m → OnlyLoads lists versions k m → IsGrown k m → latest + 1 ≡ length m.seen
    → IsUnderway latest 0 k m
loaded_underway lists versions latest k m asked only g last =
    let seen = length_kept k.seen m.seen g.seen in
    let told = asked.told in
    let asks = asked.asks in
    record {
      grows = g;
      front_is = record { seen = omega (arith, seen, last); told = omega (arith, told, last); within = omega (arith, last); asked = omega (arith, asks) };
      mine = ap (λ (x : Knowledge). x.mine) only.same;
      tries = record { rest = []; is = ap (λ (x : Knowledge). x.tries) only.same ∙ sym (append-nil k.tries) };
      count = refl;
      first = sym last;
      rising = λ i j d less within. absurd (omega (arith, within));
      tries_below = All-nil (λ t. t.version < length m.seen);
      put = record { rest = []; is = ap (λ (x : Knowledge). x.put) only.same ∙ sym (append-nil k.put) };
      put_below = λ v i h. (let within = h.1 in absurd (omega (arith, within)));
      kept = only.kept;
    }

pub load_refused_stands : (tells : Bool) (intent : Intent) (e : LoadError) (reading : ℤ) (last : ℕ) (log : List Commit) → WriteStands tells intent (Err (of_load e)) reading last log
load_refused_stands tells intent load.NoTable reading last log = tt
load_refused_stands tells intent (load.AfterLatest version latest) reading last log = tt
load_refused_stands tells intent (load.BeforeFirst first latest) reading last log = tt
load_refused_stands tells intent (load.Fault at) reading last log = tt
load_refused_stands tells intent load.Memory reading last log = tt

no_table : (k m : Knowledge) → HasAsked k m → IsGrown k m → m.seen ≡ [] → length k.seen ≤ 0 × k.told ≤ 0
no_table k m asked g none =
    let seen = length_kept k.seen m.seen g.seen in
    let told = asked.told in
    let e = ap length none in
    (omega (arith, seen, e), omega (arith, told, e))

pub load_refused_now : (tells : Bool) (e : LoadError) (lists versions : ℕ) (k m : Knowledge) → LoadCause tells e k m → UnlessMemory {A = Snapshot} (Err e) (HasAsked k m)
    → OnlyLoads lists versions k m → IsGrown k m → WrittenNow tells (Err (of_load e)) k m
load_refused_now tells load.NoTable lists versions k m cause asked only g =
    let bounds = no_table k m asked g cause in
    record {
      front_is = record { seen = bounds.0; told = bounds.1; within = omega arith; asked = (let asks = asked.asks in omega (arith, asks)) };
      none = cause;
      mine = ap (λ (x : Knowledge). x.mine) only.same;
      tries = ap (λ (x : Knowledge). x.tries) only.same;
    }
load_refused_now tells (load.AfterLatest version latest) lists versions k m cause asked only g = absurd cause
load_refused_now tells (load.BeforeFirst first latest) lists versions k m cause asked only g = absurd cause
load_refused_now tells (load.Fault at) lists versions k m cause asked only g = record { cause = cause.0; mine = ap (λ (x : Knowledge). x.mine) only.same }
load_refused_now tells load.Memory lists versions k m cause asked only g = ap (λ (x : Knowledge). x.mine) only.same
