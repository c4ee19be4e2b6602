-- The snapshot of a table whose versions were read.
use Rattle.std.proofs.Common.{◌≡◌, ◌<◌, ◌≤◌, ◌+◌, ◌-◌, ◌*◌, ℕ, ℤ, pos, Bool, IsTrue, List, [], ◌∷◌, ◌++◌, length, sym, ◌∙◌, ap, arith}
use Rattle.std.specs.Prelude.{Result, Ok, Err, IfOk, unwrap_or}
use Rattle.commit_catalog.specs.declared.Commits.{Commits}
use Rattle.reconcile.specs.declared.State.{State}
use Rattle.reconcile.specs.Standing.{time_in}
use Rattle.table_model.specs.Log.{Commit, commit_at, commit_time}
use Rattle.table_model.specs.Knowledge.{Knowledge}
use Rattle.table_model.specs.Learning.{CommitsLearnt, ListLearnt}
use Rattle.table_model.specs.declared.snapshot.Snapshot.{Snapshot}
use Rattle.log_names.specs.declared.LogName.{LogName}
use Rattle.snapshot_load.specs.declared.errors.LoadError.{LoadError}
use Rattle.snapshot_load.specs.declared.errors.LoadError.TheVariants.{NoTable, AfterLatest, BeforeFirst, Fault, Memory}
use Rattle.snapshot_load.specs.Causes.{UnlessMemory}
use Rattle.snapshot_load.specs.Reading.{OnlyReads, HasAsked}
use Rattle.snapshot_load.specs.Snapshots.{IsSnapshot}
use Rattle.snapshot_load.specs.Texts.{IsReplayOf}
use Rattle.snapshot_load.proofs.Replaying.{seen_same, state_time}
use Rattle.snapshot_load.proofs.TextsRead.{replay_stands}

pub is_snapshot : (tells : Bool) (s : State) (time : ℤ) (c : Commits) (k m : Knowledge) (n version : ℕ) → c.count ≡ length k.seen → OnlyReads n k m
    → version < c.count → IsReplayOf tells m.seen (version + 1) s → time ≡ unwrap_or (time_in s) (pos 0)
    → IsSnapshot tells m.seen (record { version = version; latest = c.count - 1; time = time; state = s })
is_snapshot tells s time c k m n version count reads less replay at =
    let total : c.count ≡ length m.seen = count ∙ sym (ap length (seen_same n k m reads)) in
    record {
      latest = omega (arith, total, less);
      version = omega (arith, less);
      state = replay_stands tells m.seen (version + 1) s replay;
      time =
          λ t. at
          ∙ state_time s m.seen (version + 1) (omega arith) (omega (arith, total, less)) (replay_stands tells m.seen (version + 1) s replay t)
          ∙ (let e : version + 1 - 1 ≡ version = omega arith in ap (λ (n : ℕ). commit_time (commit_at m.seen n).bytes) e);
    }

-- the last version that the catalogue told is that of the snapshot
pub newest : (tells : Bool) (seen : List Commit) (r : Result Snapshot LoadError) (count : ℕ) → count ≡ length seen → IfOk r (IsSnapshot tells seen)
    → IfOk r (λ s. s.version ≡ count - 1) → IfOk r (λ s. s.version ≡ s.latest)
newest tells seen (Ok s) count total h at = let l = h.latest in omega (arith, total, l, at)
newest tells seen (Err e) count total h at = h

-- a fact of each answer
pub unless_memory : {A P : Type 0} (r : Result A LoadError) → P → UnlessMemory r P
unless_memory (Ok x) p = p
unless_memory (Err NoTable) p = p
unless_memory (Err (AfterLatest version latest)) p = p
unless_memory (Err (BeforeFirst first latest)) p = p
unless_memory (Err (Fault at)) p = p
unless_memory (Err Memory) p = tt

-- the catalogue was asked, and then the folder was listed and files were read

pub asked_now : (tells : Bool) (k : Knowledge) (c : Commits) (m : Knowledge) → CommitsLearnt tells k c m → HasAsked k m
asked_now tells k c m h = record {
  asks = ap (λ (x : Knowledge). x.asks) h.same;
  heard =
      let e : m.reported ≡ c.reported = ap (λ (x : Knowledge). x.reported) h.same in
      ap (λ (x : Knowledge). x.heard) h.same ∙ ap (λ (n : ℕ). k.heard ++ n ∷ []) (sym e);
  told = h.sees.told;
}

asked_same : (k j m : Knowledge) → m.asks ≡ j.asks → m.heard ≡ j.heard → m.reported ≡ j.reported → m.seen ≡ j.seen → HasAsked k j → HasAsked k m
asked_same k j m asks heard reported seen h = record {
  asks = asks ∙ h.asks;
  heard = heard ∙ h.heard ∙ ap (λ (n : ℕ). k.heard ++ n ∷ []) (sym reported);
  told = (let e = ap length seen in let t = h.told in omega (arith, e, t));
}

pub asked_listed : (tells : Bool) (k j : Knowledge) (names : List LogName) (m : Knowledge) → HasAsked k j → ListLearnt tells j names m → HasAsked k m
asked_listed tells k j names m h l =
    asked_same k j m (ap (λ (x : Knowledge). x.asks) l.same) (ap (λ (x : Knowledge). x.heard) l.same) (ap (λ (x : Knowledge). x.reported) l.same)
    (ap (λ (x : Knowledge). x.seen) l.same) h

pub asked_read : (n : ℕ) (k j m : Knowledge) → HasAsked k j → OnlyReads n j m → HasAsked k m
asked_read n k j m h r =
    asked_same k j m (ap (λ (x : Knowledge). x.asks) r.same) (ap (λ (x : Knowledge). x.heard) r.same) (ap (λ (x : Knowledge). x.reported) r.same)
    (ap (λ (x : Knowledge). x.seen) r.same) h

-- the count of faults after the catalogue turn and the listing
pub asked_faults : (tells : Bool) (k : Knowledge) (c : Commits) (m : Knowledge) → CommitsLearnt tells k c m → m.faults ≡ k.faults
asked_faults tells k c m h = ap (λ (x : Knowledge). x.faults) h.same

pub listed_faults : (tells : Bool) (j : Knowledge) (names : List LogName) (m : Knowledge) → ListLearnt tells j names m → m.faults ≡ j.faults
listed_faults tells j names m l = ap (λ (x : Knowledge). x.faults) l.same
