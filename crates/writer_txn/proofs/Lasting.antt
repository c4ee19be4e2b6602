-- What stands of a log stands in every longer log.
use Rattle.std.proofs.Common.{◌≡◌, ◌<◌, ◌≤◌, ◌+◌, ℕ, ℤ, Bool, List, length, take, drop, sym, ◌∙◌, ap, subst, arith, length-append}
use Rattle.std.specs.Prelude.{Option, Some, None, Result, Ok, Err}
use Rattle.std.proofs.lemmas.List.{take-append-le}
use Rattle.std.proofs.Math.ListN.{get_or-append}
use Rattle.reconcile.specs.Replay.{time_of_log}
use Rattle.table_rules.specs.Broken.{number_at}
use Rattle.conflict_rules.specs.declared.intent.Intent.{Intent}
use Rattle.conflict_rules.specs.declared.clash.Rule.{Rule}
use Rattle.staged_commit.specs.declared.create.Create.{Create}
use Rattle.table_rules.specs.declared.broken.Broken.{Broken}
use Rattle.table_model.specs.Log.{Commit, commit_at, no_commit, history}
use Rattle.table_model.specs.Knowledge.{StartsWith}
use Rattle.writer_txn.specs.declared.answers.Written.{Written}
use Rattle.writer_txn.specs.declared.answers.Written.TheVariants as written
use Rattle.writer_txn.specs.declared.errors.WriteError.{WriteError}
use Rattle.writer_txn.specs.declared.errors.WriteError.TheVariants as failed
use Rattle.writer_txn.specs.Fronts.{before, above, first_clash, IsNewer}
use Rattle.writer_txn.specs.Writing.{WriteStands, IsLaterCommit, IsAlready, IsNewerAt, IsBrokenWrite, IsConflict, IsEndOfTime, IsLongWrite, IsNameOfWrite}
use Rattle.conflict_rules.specs.Conflict.{first_conflict}
use Rattle.commit_timestamps.specs.Times.{next_time}
use Rattle.staged_commit.specs.Composed.{composed_append}
use Rattle.staged_commit.specs.Rules.{broken_but_time_and_number}
use Rattle.writer_txn.specs.Creating.{CreateStands, IsFirstCommit}

-- a longer log has no fewer commits
pub length_kept : (log longer : List Commit) → StartsWith longer log → length log ≤ length longer
length_kept log longer s = let e = ap length s.is in let f = length-append log s.rest in omega (arith, e, f)

-- its fronts are the same
pub front_kept : (log longer : List Commit) (n : ℕ) → StartsWith longer log → n ≤ length log → take n longer ≡ take n log
front_kept log longer n s within = ap (take n) s.is ∙ take-append-le n log s.rest within

-- and so are its commits
pub commit_kept : (log longer : List Commit) (version : ℕ) → StartsWith longer log → version < length log → commit_at longer version ≡ commit_at log version
commit_kept log longer version s ratified =
    ap (λ (l : List Commit). commit_at l version) s.is ∙ get_or-append log s.rest no_commit version ratified

pub below_longer : (log longer : List Commit) (n : ℕ) → StartsWith longer log → n < length log → n < length longer
below_longer log longer n s less = let m = length_kept log longer s in omega (arith, m)

first_commit_longer : (tells : Bool) (create : Create) (version : ℕ) (base : Option ℕ) (time reading : ℤ) (last : ℕ) (log longer : List Commit) → StartsWith longer log
    → IsFirstCommit tells create version base time reading last log → IsFirstCommit tells create version base time reading last longer
first_commit_longer tells create version base time reading last log longer s h =
    let same : commit_at longer 0 ≡ commit_at log 0 = commit_kept log longer 0 s h.ratified in
    record {
      version_is = h.version_is;
      base_is = h.base_is;
      time_is = h.time_is;
      ratified = below_longer log longer 0 s h.ratified;
      id = ap (λ (c : Commit). c.id) same ∙ h.id;
      text = λ t. ap (λ (c : Commit). c.bytes) same ∙ h.text t;
    }

-- what an answer of a create says of a log it says of each longer one
pub create_stands_longer : (tells : Bool) (create : Create) (answer : Result Written WriteError) (reading : ℤ) (last : ℕ) (log longer : List Commit) → StartsWith longer log
    → CreateStands tells create answer reading last log → CreateStands tells create answer reading last longer
create_stands_longer tells create (Ok (written.Committed version base time)) reading last log longer s h = first_commit_longer tells create version base time reading last log longer s h
create_stands_longer tells create (Ok (written.Already recorded latest)) reading last log longer s h = h
create_stands_longer tells create (Err failed.NoTable) reading last log longer s h = h
create_stands_longer tells create (Err (failed.Exists latest)) reading last log longer s h = below_longer log longer latest s h
create_stands_longer tells create (Err (failed.Broken base why)) reading last log longer s h = h
create_stands_longer tells create (Err (failed.Conflict base winner rule key vector latest)) reading last log longer s h = h
create_stands_longer tells create (Err (failed.Contended attempts latest)) reading last log longer s h = h
create_stands_longer tells create (Err (failed.Full latest)) reading last log longer s h = h
create_stands_longer tells create (Err (failed.TimeEnd base end)) reading last log longer s h = h
create_stands_longer tells create (Err (failed.TooLarge base bytes)) reading last log longer s h = h
create_stands_longer tells create (Err (failed.Taken base version id)) reading last log longer s h = h
create_stands_longer tells create (Err (failed.Fault at)) reading last log longer s h = h
create_stands_longer tells create (Err failed.Memory) reading last log longer s h = h

-- ---- a write

newer_longer : (tells : Bool) (intent : Intent) (version : ℕ) (log longer : List Commit) → StartsWith longer log → IsNewerAt tells intent version log → IsNewerAt tells intent version longer
newer_longer tells intent version log longer s h = record {
  ratified = below_longer log longer version s h.ratified;
  number = λ t. (let P : List Commit → Type 0 = λ l. IsNewer intent (history l) in subst P (sym (front_kept log longer (version + 1) s (let r = h.ratified in omega (arith, r)))) (h.number t));
}

pub clash_longer : (intent : Intent) (base n : ℕ) (log longer : List Commit) → StartsWith longer log → base + 1 ≤ length log → n ≤ length log
    → first_clash intent base n longer ≡ first_clash intent base n log
clash_longer intent base n log longer s from to =
    ap (λ (l : List Commit). first_conflict intent (history l) (base + 1) (above base n longer)) (front_kept log longer (base + 1) s from)
    ∙ ap (λ (l : List Commit). first_conflict intent (before (base + 1) log) (base + 1) (history (drop (base + 1) l))) (front_kept log longer n s to)

later_commit_longer : (tells : Bool) (intent : Intent) (version base : ℕ) (time reading : ℤ) (last : ℕ) (log longer : List Commit) → StartsWith longer log
    → IsLaterCommit tells intent version base time reading last log → IsLaterCommit tells intent version base time reading last longer
later_commit_longer tells intent version base time reading last log longer s h =
    let r = h.ratified in
    let f = h.from in
    let same : commit_at longer version ≡ commit_at log version = commit_kept log longer version s r in
    let front : take version longer ≡ take version log = front_kept log longer version s (omega (arith, r)) in
    let below : take (base + 1) longer ≡ take (base + 1) log = front_kept log longer (base + 1) s (omega (arith, r, f)) in
    record {
      ratified = below_longer log longer version s r;
      from = f;
      id = ap (λ (c : Commit). c.id) same ∙ h.id;
      text = λ t. ap (λ (c : Commit). c.bytes) same ∙ h.text t;
      next = λ t. ap (λ (l : List Commit). next_time (time_of_log (history l)) reading) front ∙ h.next t;
      number = λ t. (let P : List Commit → Type 0 = λ l. IsNewer intent (history l) in subst P (sym front) (h.number t));
      rules = λ t. ap (λ (l : List Commit). broken_but_time_and_number (history l) (composed_append intent last time)) below ∙ h.rules t;
      conflicts = λ t. clash_longer intent base version log longer s (omega (arith, r, f)) (omega (arith, r)) ∙ h.conflicts t;
    }

already_longer : (tells : Bool) (intent : Intent) (recorded : ℤ) (latest : ℕ) (log longer : List Commit) → StartsWith longer log
    → IsAlready tells intent recorded latest log → IsAlready tells intent recorded latest longer
already_longer tells intent recorded latest log longer s h =
    let r = h.latest_is in
    record {
      latest_is = below_longer log longer latest s r;
      reached = h.reached;
      number = λ t. ap (λ (l : List Commit). number_at intent.app (history l)) (front_kept log longer (latest + 1) s (omega (arith, r))) ∙ h.number t;
    }

broken_longer : (tells : Bool) (intent : Intent) (base : ℕ) (why : Broken) (log longer : List Commit) → StartsWith longer log
    → IsBrokenWrite tells intent base why log → IsBrokenWrite tells intent base why longer
broken_longer tells intent base why log longer s h =
    let r = h.newer.ratified in
    record {
      newer = newer_longer tells intent base log longer s h.newer;
      rule = λ t id time. ap (λ (l : List Commit). broken_but_time_and_number (history l) (composed_append intent id time)) (front_kept log longer (base + 1) s (omega (arith, r))) ∙ h.rule t id time;
    }

conflict_longer : (tells : Bool) (intent : Intent) (base winner : ℕ) (rule : Rule) (key : List ℕ) (vector : Option (List ℕ)) (latest : ℕ) (log longer : List Commit) → StartsWith longer log
    → IsConflict tells intent base winner rule key vector latest log → IsConflict tells intent base winner rule key vector latest longer
conflict_longer tells intent base winner rule key vector latest log longer s h =
    let r = h.newer.ratified in
    let f = h.from in
    let w = h.to in
    record {
      newer = newer_longer tells intent latest log longer s h.newer;
      from = f;
      to = w;
      first = λ t. clash_longer intent base (latest + 1) log longer s (omega (arith, r, f, w)) (omega (arith, r)) ∙ h.first t;
    }

end_longer : (tells : Bool) (intent : Intent) (base : ℕ) (end : ℤ) (log longer : List Commit) → StartsWith longer log
    → IsEndOfTime tells intent base end log → IsEndOfTime tells intent base end longer
end_longer tells intent base end log longer s h =
    let w = h.within in
    let more = length_kept log longer s in
    record {
      newer = newer_longer tells intent base log longer s h.newer;
      end_is = h.end_is;
      version = h.version;
      from = h.from;
      within = omega (arith, w, more);
      time = λ t. ap (λ (l : List Commit). time_of_log (history l)) (front_kept log longer h.version s w) ∙ h.time t;
    }

long_longer : (tells : Bool) (intent : Intent) (base bytes : ℕ) (reading : ℤ) (last : ℕ) (log longer : List Commit) → StartsWith longer log
    → IsLongWrite tells intent base bytes reading last log → IsLongWrite tells intent base bytes reading last longer
long_longer tells intent base bytes reading last log longer s h =
    let w = h.within in
    let more = length_kept log longer s in
    record {
      newer = newer_longer tells intent base log longer s h.newer;
      version = h.version;
      from = h.from;
      within = omega (arith, w, more);
      text = λ t.
          (let p = h.text t in record {
            time = p.time;
            next = ap (λ (l : List Commit). next_time (time_of_log (history l)) reading) (front_kept log longer h.version s w) ∙ p.next;
            bytes_are = p.bytes_are;
          });
    }

name_longer : (tells : Bool) (intent : Intent) (base version id last : ℕ) (log longer : List Commit) → StartsWith longer log
    → IsNameOfWrite tells intent base version id last log → IsNameOfWrite tells intent base version id last longer
name_longer tells intent base version id last log longer s h = record { newer = newer_longer tells intent base log longer s h.newer; from = h.from; id_is = h.id_is }

-- what an answer of a write says of a log it says of each longer one
pub write_stands_longer : (tells : Bool) (intent : Intent) (answer : Result Written WriteError) (reading : ℤ) (last : ℕ) (log longer : List Commit) → StartsWith longer log
    → WriteStands tells intent answer reading last log → WriteStands tells intent answer reading last longer
write_stands_longer tells intent (Ok (written.Committed version None time)) reading last log longer s h = h
write_stands_longer tells intent (Ok (written.Committed version (Some base) time)) reading last log longer s h = later_commit_longer tells intent version base time reading last log longer s h
write_stands_longer tells intent (Ok (written.Already recorded latest)) reading last log longer s h = already_longer tells intent recorded latest log longer s h
write_stands_longer tells intent (Err failed.NoTable) reading last log longer s h = h
write_stands_longer tells intent (Err (failed.Exists latest)) reading last log longer s h = h
write_stands_longer tells intent (Err (failed.Broken None why)) reading last log longer s h = h
write_stands_longer tells intent (Err (failed.Broken (Some base) why)) reading last log longer s h = broken_longer tells intent base why log longer s h
write_stands_longer tells intent (Err (failed.Conflict base winner rule key vector latest)) reading last log longer s h = conflict_longer tells intent base winner rule key vector latest log longer s h
write_stands_longer tells intent (Err (failed.Contended attempts latest)) reading last log longer s h = newer_longer tells intent latest log longer s h
write_stands_longer tells intent (Err (failed.Full latest)) reading last log longer s h = newer_longer tells intent latest log longer s h
write_stands_longer tells intent (Err (failed.TimeEnd base end)) reading last log longer s h = end_longer tells intent base end log longer s h
write_stands_longer tells intent (Err (failed.TooLarge None bytes)) reading last log longer s h = h
write_stands_longer tells intent (Err (failed.TooLarge (Some base) bytes)) reading last log longer s h = long_longer tells intent base bytes reading last log longer s h
write_stands_longer tells intent (Err (failed.Taken None version id)) reading last log longer s h = h
write_stands_longer tells intent (Err (failed.Taken (Some base) version id)) reading last log longer s h = name_longer tells intent base version id last log longer s h
write_stands_longer tells intent (Err (failed.Fault at)) reading last log longer s h = h
write_stands_longer tells intent (Err failed.Memory) reading last log longer s h = h
