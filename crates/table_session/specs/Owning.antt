-- What a reply says of its own moment: k was known before the request, m after it.
use Rattle.std.specs.Prelude.{◌≡◌, ◌+◌, Bool, length, IfOk, IfErr, Result, Ok, Err}
use Rattle.table_model.specs.Knowledge.{Knowledge}
use Rattle.table_model.specs.declared.snapshot.Snapshot.{Snapshot}
use Rattle.snapshot_load.specs.declared.errors.LoadError.{LoadError}
use Rattle.snapshot_load.specs.Causes.{LoadCause, UnlessMemory}
use Rattle.snapshot_load.specs.Reading.{OnlyLoads, HasAsked}
use Rattle.writer_txn.specs.Creating.{CreateStands}
use Rattle.writer_txn.specs.Writing.{WriteStands}
use Rattle.writer_txn.specs.Moments.{WrittenNow}
use Rattle.session_lines.specs.declared.fault.LineWhy.{LineWhy}
use Rattle.session_lines.specs.declared.request.Request.{Request}
use Rattle.session_lines.specs.declared.request.Request.TheVariants as request
use Rattle.session_lines.specs.declared.reply.Reply.{Reply}
use Rattle.table_session.specs.Moments.{Moment}
use Rattle.table_session.specs.Asking.{asked_by}
use Rattle.table_session.specs.Replying.{loaded_reply, written_reply}
use Rattle.table_session.specs.Standing.{Refuses, LoadedStands}

-- there is an answer of the call of which this is the reply; it stands of the commits as they are seen, and is that of this moment
pub record IsReplyNow {A : Type 0} (reply_to : A → Reply) (r : Reply) (Holds Now : A → Type 0) : Type 0 where
  pub answer : A
  pub is : r ≡ reply_to answer
  pub stands : Holds answer
  pub now : Now answer

-- a line that is no request changes nothing
pub record RefusesNow (first : LineWhy) (k : Knowledge) (x : Moment) : Type 0 where
  pub refuses : Refuses x.line first x.reply
  pub same : x.after ≡ k

-- the turns of one load: its catalogue turn found no commit for NoTable, a fault of the store is among those of these turns
pub record LoadMoment (tells : Bool) (answer : Result Snapshot LoadError) (k m : Knowledge) : Type 0 where
  pub asked : UnlessMemory answer (HasAsked k m)
  pub turns : OnlyLoads 1 (length m.seen) k m
  pub newest : IfOk answer (λ s. s.latest + 1 ≡ length m.seen)
  pub cause : IfErr answer (λ e. LoadCause tells e k m)

abbrev pub OwnTo : Bool → Result Request LineWhy → Knowledge → Moment → Type 0
OwnTo tells (Err first) k x = RefusesNow first k x
OwnTo tells (Ok (request.Create what)) k x =
    IsReplyNow written_reply x.reply (λ answer. CreateStands tells what answer x.reading x.last x.after.seen) (λ answer. WrittenNow tells answer k x.after)
OwnTo tells (Ok (request.Write intent)) k x =
    IsReplyNow written_reply x.reply (λ answer. WriteStands tells intent answer x.reading x.last x.after.seen) (λ answer. WrittenNow tells answer k x.after)
OwnTo tells (Ok request.Load) k x =
    IsReplyNow loaded_reply x.reply (λ answer. IfOk answer (LoadedStands tells x.after.seen)) (λ answer. LoadMoment tells answer k x.after)

-- a reply of the kinds that its line's request has, which is right of the commits as they are seen, and of its moment
abbrev pub Own : Bool → Knowledge → Moment → Type 0
Own tells k x = OwnTo tells (asked_by x.line) k x
