-- What a reply says of a list of commits. It is said of the list as it was seen at the reply's moment, and stands of every longer one.
use Rattle.std.specs.Prelude.{◌≡◌, ◌<◌, ◌+◌, ◌⊎◌, Bool, List, length, take, IsTrue, IfOk, Result, Ok, Err}
use Rattle.text_lines.specs.Lines.{Numbered}
use Rattle.reconcile.specs.Standing.{StandsFor}
use Rattle.table_model.specs.Log.{Commit, commit_at, commit_time, history}
use Rattle.table_model.specs.declared.snapshot.Snapshot.{Snapshot}
use Rattle.writer_txn.specs.Creating.{CreateStands}
use Rattle.writer_txn.specs.Writing.{WriteStands}
use Rattle.session_lines.specs.declared.fault.LineWhy.{LineWhy}
use Rattle.session_lines.specs.declared.request.Request.{Request}
use Rattle.session_lines.specs.declared.request.Request.TheVariants as request
use Rattle.session_lines.specs.declared.reply.Reply.{Reply}
use Rattle.session_lines.specs.declared.reply.Reply.TheVariants as reply
use Rattle.table_session.specs.Moments.{Moment}
use Rattle.table_session.specs.Asking.{asked_by}
use Rattle.table_session.specs.Replying.{loaded_reply, written_reply}

-- there is an answer of the call of which this is the reply, and it stands
pub record IsReplyOf {A : Type 0} (reply_to : A → Reply) (r : Reply) (Holds : A → Type 0) : Type 0 where
  pub answer : A
  pub is : r ≡ reply_to answer
  pub stands : Holds answer

-- the line is no request: the reply has its number and the first reason; or memory ran out
abbrev pub Refuses : Numbered → LineWhy → Reply → Type 0
Refuses line first r = (r ≡ reply.BadLine line.at first) ⊎ (r ≡ reply.Memory)

-- the last version, with the state and the time that the commits up to it replay to
pub record LoadedStands (tells : Bool) (log : List Commit) (s : Snapshot) : Type 0 where
  pub newest : s.version ≡ s.latest
  pub ratified : s.version < length log
  pub state : IsTrue tells → StandsFor s.state (history (take (s.version + 1) log))
  pub time : IsTrue tells → s.time ≡ commit_time (commit_at log s.version).bytes

abbrev pub StandsTo : Bool → Result Request LineWhy → Moment → List Commit → Type 0
StandsTo tells (Err first) x log = Refuses x.line first x.reply
StandsTo tells (Ok (request.Create what)) x log = IsReplyOf written_reply x.reply (λ answer. CreateStands tells what answer x.reading x.last log)
StandsTo tells (Ok (request.Write intent)) x log = IsReplyOf written_reply x.reply (λ answer. WriteStands tells intent answer x.reading x.last log)
StandsTo tells (Ok request.Load) x log = IsReplyOf loaded_reply x.reply (λ answer. IfOk answer (LoadedStands tells log))

-- a reply of the kinds that its line's request has, which is right of the commits
abbrev pub Stands : Bool → Moment → List Commit → Type 0
Stands tells x log = StandsTo tells (asked_by x.line) x log
