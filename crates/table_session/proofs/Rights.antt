-- The replies of each kind of line are right.
use Rattle.std.proofs.Common.{◌≡◌, ◌≤◌, ◌<◌, ◌+◌, ℕ, ℤ, Bool, false, cond, length, refl, sym, ◌∙◌, ap, subst, append-nil, arith, inl, inr, Result, Ok, Err}
use Rattle.std.specs.Prelude.{IfOk, IfErr}
use Rattle.std.proofs.lemmas.Bool.{le-leb}
use Rattle.std.proofs.lemmas.Bool.Decides.{leb_tells}
use Rattle.text_lines.specs.Lines.{Numbered}
use Rattle.lake_io.specs.Reading.{line_limit}
use Rattle.action_fields.specs.Gives.{Gives}
use Rattle.table_model.specs.Knowledge.{Knowledge, IsGrown}
use Rattle.table_model.proofs.Growing.{grows_refl}
use Rattle.table_model.specs.declared.snapshot.Snapshot.{Snapshot}
use Rattle.snapshot_load.specs.declared.errors.LoadError.{LoadError}
use Rattle.snapshot_load.specs.declared.errors.LoadError.TheVariants as load
use Rattle.snapshot_load.specs.Snapshots.{IsSnapshot}
use Rattle.snapshot_load.specs.Causes.{LoadCause, UnlessMemory, CountsFaults}
use Rattle.snapshot_load.specs.Reading.{OnlyLoads, HasAsked}
use Rattle.snapshot_load.proofs.Keeping.{loads_none}
use Rattle.writer_txn.specs.declared.errors.WriteError.TheVariants as failed
use Rattle.session_lines.specs.declared.fault.BadLine.{BadLine}
use Rattle.session_lines.specs.declared.fault.BadLine.TheVariants as bad
use Rattle.session_lines.specs.declared.fault.LineWhy.{LineWhy}
use Rattle.session_lines.specs.declared.fault.LineWhy.TheVariants as why
use Rattle.session_lines.specs.declared.request.Request.{Request}
use Rattle.session_lines.specs.declared.request.Request.TheVariants as request
use Rattle.session_lines.specs.declared.reply.Reply.TheVariants as reply
use Rattle.session_lines.specs.Faults.{told}
use Rattle.session_lines.specs.Requests.{request_of}
use Rattle.answer_names.specs.Names.{all_versions}
use Rattle.answer_names.specs.Gaining.{Gains}
use Rattle.answer_names.proofs.Chains.{length_grown}
use Rattle.answer_names.proofs.Gained.{gains_quiet, gains_nothing, one_of_none}
use Rattle.table_session.specs.Moments.{Moment, moment}
use Rattle.table_session.specs.Asking.{asked_by, is_within_limit}
use Rattle.table_session.specs.Naming.{named_by}
use Rattle.table_session.specs.Replying.{loaded_reply, refusal_reply}
use Rattle.table_session.specs.Standing.{LoadedStands}
use Rattle.table_session.specs.Owning.{LoadMoment, OwnTo}
use Rattle.table_session.specs.Running.{IsRight}
use Rattle.table_session.proofs.Gained.{fault_gains}

-- a reply that is right for what a line is known to ask
pub right_for : (tells : Bool) (k : Knowledge) (x : Moment) (asked : Result Request LineWhy) → asked_by x.line ≡ asked → IsGrown k x.after
    → OwnTo tells asked k x → Gains tells (named_by x.reply) k x.after → IsRight tells k x
right_for tells k x asked e g o gains =
    let P : Result Request LineWhy → Type 0 = λ a. OwnTo tells a k x in
    record { grows = g; own = subst P (sym e) o; gains = gains }

-- ---- a line that is no request

unread_right : (tells : Bool) (k : Knowledge) (line : Numbered) (first : LineWhy) (number : ℕ) (reading : ℤ) (last : ℕ) → number ≡ line.at → asked_by line ≡ Err first
    → IsRight tells k (moment line (reply.BadLine number first) k reading last)
unread_right tells k line first number reading last n e =
    right_for tells k (moment line (reply.BadLine number first) k reading last) (Err first) e (grows_refl k)
    (record { refuses = inl (ap (λ (at : ℕ). reply.BadLine at first) n); same = refl }) (gains_nothing tells k k (grows_refl k) refl refl)

pub long_right : (tells : Bool) (k : Knowledge) (line : Numbered) (number : ℕ) (reading : ℤ) (last : ℕ) → number ≡ line.at → line_limit < length line.text
    → IsRight tells k (moment line (reply.BadLine number why.TooLong) k reading last)
long_right tells k line number reading last n long =
    let e : is_within_limit line.text ≡ false = elim (leb_tells (length line.text) line_limit) [ inl t ↦ absurd (omega (arith, t.1, long)) | inr f ↦ f.0 ] in
    unread_right tells k line why.TooLong number reading last n (ap (λ (b : Bool). cond b (request_of line.text) (Err why.TooLong)) e)

memory_own : (tells : Bool) (k : Knowledge) (line : Numbered) (reading : ℤ) (last : ℕ) (asked : Result Request LineWhy) → OwnTo tells asked k (moment line reply.Memory k reading last)
memory_own tells k line reading last (Err first) = record { refuses = inr refl; same = refl }
memory_own tells k line reading last (Ok (request.Create what)) = record { answer = Err failed.Memory; is = refl; stands = tt; now = refl }
memory_own tells k line reading last (Ok (request.Write intent)) = record { answer = Err failed.Memory; is = refl; stands = tt; now = refl }
memory_own tells k line reading last (Ok request.Load) =
    let turns : OnlyLoads 1 (length k.seen) k k = loads_none 1 (length k.seen) k k refl in
    record {
      answer = Err load.Memory;
      is = refl;
      stands = tt;
      now = record { asked = tt; turns = turns; newest = tt; cause = λ asked. absurd (omega (arith, asked)) };
    }

memory_right : (tells : Bool) (k : Knowledge) (line : Numbered) (reading : ℤ) (last : ℕ) → IsRight tells k (moment line reply.Memory k reading last)
memory_right tells k line reading last = record {
  grows = grows_refl k;
  own = memory_own tells k line reading last (asked_by line);
  gains = gains_nothing tells k k (grows_refl k) refl refl;
}

refused : (tells : Bool) (k : Knowledge) (line : Numbered) (number : ℕ) (b : BadLine) (reading : ℤ) (last : ℕ) → number ≡ line.at
    → asked_by line ≡ request_of line.text → Gives told (λ r. r) (Err b) (request_of line.text) → IsRight tells k (moment line (refusal_reply number b) k reading last)
refused tells k line number bad.Utf8 reading last n e gives = unread_right tells k line why.Utf8 number reading last n (e ∙ gives)
refused tells k line number bad.NotJson reading last n e gives = unread_right tells k line why.NotJson number reading last n (e ∙ gives)
refused tells k line number bad.NotObject reading last n e gives = unread_right tells k line why.NotObject number reading last n (e ∙ gives)
refused tells k line number bad.Op reading last n e gives = unread_right tells k line why.Op number reading last n (e ∙ gives)
refused tells k line number (bad.Field field) reading last n e gives = unread_right tells k line (why.Field field) number reading last n (e ∙ gives)
refused tells k line number bad.Memory reading last n e gives = memory_right tells k line reading last

pub asked_within : (line : Numbered) → length line.text ≤ line_limit → asked_by line ≡ request_of line.text
asked_within line h = ap (λ (b : Bool). cond b (request_of line.text) (Err why.TooLong)) (le-leb (length line.text) line_limit h)

pub refusal_right : (tells : Bool) (k : Knowledge) (line : Numbered) (number : ℕ) (b : BadLine) (reading : ℤ) (last : ℕ) → number ≡ line.at
    → length line.text ≤ line_limit → Gives told (λ r. r) (Err b) (request_of line.text) → IsRight tells k (moment line (refusal_reply number b) k reading last)
refusal_right tells k line number b reading last n short gives = refused tells k line number b reading last n (asked_within line short) gives

-- ---- a load

load_stands : (tells : Bool) (answer : Result Snapshot LoadError) (k m : Knowledge) → IfOk answer (IsSnapshot tells m.seen) → IfOk answer (λ s. s.version ≡ s.latest)
    → IfOk answer (LoadedStands tells m.seen)
load_stands tells (Ok s) k m loaded newest = record {
  newest = newest;
  ratified = omega (arith, loaded.latest, loaded.version);
  state = loaded.state;
  time = loaded.time;
}
load_stands tells (Err e) k m loaded newest = tt

load_latest : (tells : Bool) (answer : Result Snapshot LoadError) (k m : Knowledge) → IfOk answer (IsSnapshot tells m.seen) → IfOk answer (λ s. s.latest + 1 ≡ length m.seen)
load_latest tells (Ok s) k m loaded = loaded.latest
load_latest tells (Err e) k m loaded = tt

load_mine : (n l : ℕ) (k m : Knowledge) → OnlyLoads n l k m → m.mine ≡ k.mine
load_mine n l k m o = ap (λ (j : Knowledge). j.mine) o.same

load_gains : (tells : Bool) (answer : Result Snapshot LoadError) (k m : Knowledge) → IfOk answer (IsSnapshot tells m.seen) → IfErr answer (λ e. LoadCause tells e k m)
    → UnlessMemory answer (HasAsked k m) → OnlyLoads 1 (length m.seen) k m → IsGrown k m → CountsFaults tells k answer m → Gains tells (named_by (loaded_reply answer)) k m
load_gains tells (Ok s) k m loaded cause asked turns g counts = gains_quiet tells (all_versions (s.latest + 1)) k m g (record {
  front = record { from = omega (arith, loaded.latest, asked.told, length_grown k m g); to = omega (arith, loaded.latest) };
  newest = λ _. loaded.latest;
  base = tt;
  asked = omega (arith, asked.asks);
  mine = load_mine 1 (length m.seen) k m turns ∙ sym (append-nil k.mine);
  one = one_of_none (all_versions (s.latest + 1)) refl;
}) counts refl refl refl refl
load_gains tells (Err load.NoTable) k m loaded cause asked turns g counts = gains_quiet tells (all_versions 0) k m g (record {
  front = record { from = omega (arith, ap length cause, asked.told, length_grown k m g); to = omega arith };
  newest = λ _. sym (ap length cause);
  base = tt;
  asked = omega (arith, asked.asks);
  mine = load_mine 1 (length m.seen) k m turns ∙ sym (append-nil k.mine);
  one = one_of_none (all_versions 0) refl;
}) counts refl refl refl refl
load_gains tells (Err (load.AfterLatest version latest)) k m loaded cause asked turns g counts = absurd cause
load_gains tells (Err (load.BeforeFirst first latest)) k m loaded cause asked turns g counts = absurd cause
load_gains tells (Err (load.Fault at)) k m loaded cause asked turns g counts = fault_gains tells at k m g cause.0 counts (load_mine 1 (length m.seen) k m turns)
load_gains tells (Err load.Memory) k m loaded cause asked turns g counts = gains_nothing tells k m g (load_mine 1 (length m.seen) k m turns) counts

pub load_right : (tells : Bool) (k m : Knowledge) (answer : Result Snapshot LoadError) (line : Numbered) (reading : ℤ) (last : ℕ)
    → IfOk answer (IsSnapshot tells m.seen) → IfOk answer (λ s. s.version ≡ s.latest) → IfErr answer (λ e. LoadCause tells e k m)
    → UnlessMemory answer (HasAsked k m) → OnlyLoads 1 (length m.seen) k m → IsGrown k m → CountsFaults tells k answer m
    → asked_by line ≡ Ok request.Load → IsRight tells k (moment line (loaded_reply answer) m reading last)
load_right tells k m answer line reading last loaded newest cause asked turns g counts e =
    let at_once : LoadMoment tells answer k m = record { asked = asked; turns = turns; newest = load_latest tells answer k m loaded; cause = cause } in
    right_for tells k (moment line (loaded_reply answer) m reading last) (Ok request.Load) e g
    (record { answer = answer; is = refl; stands = load_stands tells answer k m loaded newest; now = at_once })
    (load_gains tells answer k m loaded cause asked turns g counts)
