-- What a reply says of a list of commits stands of every longer one.
use Rattle.std.proofs.Common.{◌≡◌, ◌<◌, ◌≤◌, ◌+◌, ℕ, Bool, List, length, take, sym, ◌∙◌, ap, subst, arith, Result, Ok, Err}
use Rattle.std.specs.Prelude.{IfOk}
use Rattle.std.proofs.Math.ListN.{get_or-append}
use Rattle.std.proofs.lemmas.List.{take-append-le}
use Rattle.reconcile.specs.Standing.{StandsFor}
use Rattle.table_model.specs.Log.{Commit, commit_at, commit_time, history, no_commit}
use Rattle.table_model.specs.Knowledge.{Knowledge, StartsWith}
use Rattle.table_model.specs.declared.snapshot.Snapshot.{Snapshot}
use Rattle.snapshot_load.specs.declared.errors.LoadError.{LoadError}
use Rattle.writer_txn.proofs.Lasting.{create_stands_longer, write_stands_longer}
use Rattle.session_lines.specs.declared.fault.LineWhy.{LineWhy}
use Rattle.session_lines.specs.declared.request.Request.{Request}
use Rattle.session_lines.specs.declared.request.Request.TheVariants as request
use Rattle.answer_names.proofs.Chains.{length_longer}
use Rattle.table_session.specs.Moments.{Moment}
use Rattle.table_session.specs.Asking.{asked_by}
use Rattle.table_session.specs.Standing.{LoadedStands, StandsTo, Stands}
use Rattle.table_session.specs.Owning.{OwnTo, Own}

take_longer : (front longer : List Commit) (s : StartsWith longer front) (n : ℕ) → n ≤ length front → take n longer ≡ take n front
take_longer front longer s n h = ap (take n) s.is ∙ take-append-le n front s.rest h

commit_longer : (front longer : List Commit) (s : StartsWith longer front) (version : ℕ) → version < length front → commit_at longer version ≡ commit_at front version
commit_longer front longer s version h = ap (λ log. commit_at log version) s.is ∙ get_or-append front s.rest no_commit version h

loaded_longer : (tells : Bool) (s : Snapshot) (front longer : List Commit) → StartsWith longer front → LoadedStands tells front s → LoadedStands tells longer s
loaded_longer tells s front longer more h = record {
  newest = h.newest;
  ratified = omega (arith, length_longer front longer more, h.ratified);
  state = λ t. subst (λ (log : List Commit). StandsFor s.state (history log)) (sym (take_longer front longer more (s.version + 1) (omega (arith, h.ratified)))) (h.state t);
  time = λ t. h.time t ∙ ap (λ (c : Commit). commit_time c.bytes) (sym (commit_longer front longer more s.version h.ratified));
}

load_longer : (tells : Bool) (answer : Result Snapshot LoadError) (front longer : List Commit) → StartsWith longer front
    → IfOk answer (LoadedStands tells front) → IfOk answer (LoadedStands tells longer)
load_longer tells (Ok s) front longer more h = loaded_longer tells s front longer more h
load_longer tells (Err e) front longer more h = h

longer_to : (tells : Bool) (asked : Result Request LineWhy) (x : Moment) (front longer : List Commit) → StartsWith longer front
    → StandsTo tells asked x front → StandsTo tells asked x longer
longer_to tells (Err first) x front longer more h = h
longer_to tells (Ok (request.Create what)) x front longer more h =
    record { answer = h.answer; is = h.is; stands = create_stands_longer tells what h.answer x.reading x.last front longer more h.stands }
longer_to tells (Ok (request.Write intent)) x front longer more h =
    record { answer = h.answer; is = h.is; stands = write_stands_longer tells intent h.answer x.reading x.last front longer more h.stands }
longer_to tells (Ok request.Load) x front longer more h =
    record { answer = h.answer; is = h.is; stands = load_longer tells h.answer front longer more h.stands }

pub stands_longer : (tells : Bool) (x : Moment) (front longer : List Commit) → StartsWith longer front → Stands tells x front → Stands tells x longer
stands_longer tells x front longer more h = longer_to tells (asked_by x.line) x front longer more h

stands_now : (tells : Bool) (asked : Result Request LineWhy) (k : Knowledge) (x : Moment) → OwnTo tells asked k x → StandsTo tells asked x x.after.seen
stands_now tells (Err first) k x o = o.refuses
stands_now tells (Ok (request.Create what)) k x o = record { answer = o.answer; is = o.is; stands = o.stands }
stands_now tells (Ok (request.Write intent)) k x o = record { answer = o.answer; is = o.is; stands = o.stands }
stands_now tells (Ok request.Load) k x o = record { answer = o.answer; is = o.is; stands = o.stands }

-- what it says of its own moment stands of the commits that were seen then
pub own_stands : (tells : Bool) (k : Knowledge) (x : Moment) → Own tells k x → Stands tells x x.after.seen
own_stands tells k x o = stands_now tells (asked_by x.line) k x o
