-- A write takes in the commits that were ratified since.
use Rattle.std.proofs.Common.{◌≡◌, ◌≤◌, ◌+◌, ℕ, Bool, List, length, take, refl, sym, ◌∙◌, ap, subst, arith}
use Rattle.std.specs.Prelude.{Option, Some, Result, Ok, Err}
use Rattle.reconcile.specs.Standing.{StandsFor}
use Rattle.conflict_rules.specs.declared.intent.Intent.{Intent}
use Rattle.table_model.specs.Log.{Commit, history}
use Rattle.table_model.specs.Knowledge.{Knowledge, StartsWith}
use Rattle.commit_catalog.specs.declared.Limits.{Limits}
use Rattle.table_model.specs.Knowledge.{Terms}
use Rattle.std.specs.Prelude.{IfSome}
use Rattle.snapshot_load.specs.declared.errors.LoadError.{LoadError}
use Rattle.snapshot_load.specs.declared.errors.LoadError.TheVariants as load
use Rattle.snapshot_load.specs.Causes.{ReadCause}
use Rattle.snapshot_load.specs.Reading.{OnlyLoads}
use Rattle.writer_txn.specs.declared.attempts.Front.{Front}
use Rattle.writer_txn.specs.declared.attempts.Outcome.{Outcome}
use Rattle.writer_txn.specs.declared.attempts.Outcome.TheVariants as outcome
use Rattle.writer_txn.specs.declared.answers.Written.TheVariants as written
use Rattle.writer_txn.specs.declared.errors.WriteError.{WriteError}
use Rattle.writer_txn.specs.declared.errors.WriteError.TheVariants as failed
use Rattle.writer_txn.specs.Converting.{of_load}
use Rattle.writer_txn.specs.Fronts.{IsNewer}
use Rattle.writer_txn.specs.Writing.{IsNewerAt, IsNameOfWrite}
use Rattle.writer_txn.specs.Proposing.{IsRefusedFull}
use Rattle.writer_txn.specs.Judging.{JudgedFrom, CaughtNow, LeavesOwn, GoesFrom}
use Rattle.writer_txn.specs.Trying.{IsFrontOf}
use Rattle.writer_txn.proofs.Lasting.{front_kept, below_longer, clash_longer}

-- what was taken in stays in a longer log
pub front_longer : (tells : Bool) (intent : Intent) (f : Front) (log longer : List Commit) → StartsWith longer log → IsFrontOf tells intent f log → IsFrontOf tells intent f longer
front_longer tells intent f log longer s h =
    let within = h.within in
    let base = h.base in
    let all : take (f.latest + 1) longer ≡ take (f.latest + 1) log = front_kept log longer (f.latest + 1) s (omega (arith, within)) in
    let low : take (f.base + 1) longer ≡ take (f.base + 1) log = front_kept log longer (f.base + 1) s (omega (arith, within, base)) in
    let P : List Commit → Type 0 = λ l. IsNewer intent (history l) in
    record {
      within = below_longer log longer f.latest s within;
      base = base;
      state = λ t. subst (λ (l : List Commit). StandsFor f.state (history l)) (sym all) (h.state t);
      number_at_base = λ t. subst P (sym low) (h.number_at_base t);
      number = λ t. subst P (sym all) (h.number t);
      conflicts = λ t. clash_longer intent f.base (f.latest + 1) log longer s (omega (arith, within, base)) (omega (arith, within)) ∙ h.conflicts t;
    }

-- the reading was refused
pub caught_read : (tells : Bool) (base : ℕ) (e : LoadError) (k m : Knowledge) → ReadCause tells e k m → CaughtNow tells base (Err (of_load e)) k m
caught_read tells base load.NoTable k m h = h
caught_read tells base (load.AfterLatest version latest) k m h = tt
caught_read tells base (load.BeforeFirst first latest) k m h = tt
caught_read tells base (load.Fault at) k m h = h
caught_read tells base load.Memory k m h = tt

-- a reading changes nothing that the caller did itself
pub reading_leaves : (lists versions : ℕ) (k m : Knowledge) → OnlyLoads lists versions k m → LeavesOwn k m
reading_leaves lists versions k m h = record {
  mine = ap (λ (x : Knowledge). x.mine) h.same;
  tries = ap (λ (x : Knowledge). x.tries) h.same;
  put = ap (λ (x : Knowledge). x.put) h.same;
  kept = h.kept;
}

-- the commits that were read are all that is seen
pub caught_judged : (tells : Bool) (base latest : ℕ) (r : Result Outcome WriteError) (k m : Knowledge) → latest + 1 ≡ length m.seen → JudgedFrom base latest r → CaughtNow tells base r k m
caught_judged tells base latest (Ok (outcome.Answered (written.Committed v b time))) k m e h = h
caught_judged tells base latest (Ok (outcome.Answered (written.Already recorded l))) k m e h = omega (arith, e, h)
caught_judged tells base latest (Ok (outcome.Lost front)) k m e h = record { base_is = h.base_is; newest = (let same = h.latest_is in omega (arith, e, same)) }
caught_judged tells base latest (Err failed.NoTable) k m e h = h
caught_judged tells base latest (Err (failed.Exists l)) k m e h = h
caught_judged tells base latest (Err (failed.Broken b why)) k m e h = h
caught_judged tells base latest (Err (failed.Conflict b winner rule key vector l)) k m e h = record { base_is = h.base_is; newest = (let same = h.latest_is in omega (arith, e, same)) }
caught_judged tells base latest (Err (failed.Contended attempts l)) k m e h = h
caught_judged tells base latest (Err (failed.Full l)) k m e h = h
caught_judged tells base latest (Err (failed.TimeEnd b end)) k m e h = h
caught_judged tells base latest (Err (failed.TooLarge b bytes)) k m e h = h
caught_judged tells base latest (Err (failed.Taken b v i)) k m e h = h
caught_judged tells base latest (Err (failed.Fault spot)) k m e h = absurd h
caught_judged tells base latest (Err failed.Memory) k m e h = tt

-- the table is full: its last version is the one that was taken in
pub full_stands : (tells : Bool) (intent : Intent) (f : Front) (id latest : ℕ) (bytes : List ℕ) (k m : Knowledge) → IsFrontOf tells intent f k.seen → f.latest + 1 ≡ length k.seen
    → IsRefusedFull (f.latest + 1) id latest bytes k m → IsNewerAt tells intent latest m.seen
full_stands tells intent f id latest bytes k m h newest full =
    let seen : m.seen ≡ k.seen = ap (λ (x : Knowledge). x.seen) full.same in
    let last = full.last in
    let same : f.latest ≡ latest = omega (arith, newest, last) in
    let now : IsNewerAt tells intent f.latest k.seen = record { ratified = h.within; number = h.number } in
    subst (λ (l : List Commit). IsNewerAt tells intent latest l) (sym seen) (subst (λ (n : ℕ). IsNewerAt tells intent n k.seen) same now)

-- the name was taken
pub name_stands : (tells : Bool) (intent : Intent) (f : Front) (id : ℕ) (k m : Knowledge) → IsFrontOf tells intent f k.seen → m.seen ≡ k.seen
    → IsNameOfWrite tells intent f.base (f.latest + 1) id id m.seen
name_stands tells intent f id k m h seen =
    let base = h.base in
    let within = h.within in
    let now : IsNameOfWrite tells intent f.base (f.latest + 1) id id k.seen = record {
      newer = record { ratified = omega (arith, base, within); number = h.number_at_base };
      from = omega (arith, base);
      id_is = refl;
    } in
    subst (λ (l : List Commit). IsNameOfWrite tells intent f.base (f.latest + 1) id id l) (sym seen) now

-- the versions are within the limit
pub within_limit : (terms : Option Terms) (limits : Limits) (tells : Bool) (n : ℕ) → terms ≡ Some (record { limits = limits; tells = tells })
    → IfSome terms (λ t. n ≤ t.limits.versions) → n ≤ limits.versions
within_limit terms limits tells n e h = subst (λ (o : Option Terms). IfSome o (λ t. n ≤ t.limits.versions)) e h

-- where it goes on, it goes on from there
pub goes_on : (tells : Bool) (base : ℕ) (r : Result Outcome WriteError) (k m : Knowledge) → CaughtNow tells base r k m → GoesFrom base r m
goes_on tells base (Ok (outcome.Answered answer)) k m h = tt
goes_on tells base (Ok (outcome.Lost front)) k m h = h
goes_on tells base (Err e) k m h = tt
