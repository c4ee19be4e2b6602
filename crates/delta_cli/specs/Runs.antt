-- What a run leaves: of one for which no session was begun, and of one with a session.
use Rattle.std.specs.Prelude.{◌≡◌, ◌<◌, ◌≤◌, ◌+◌, ◌⊎◌, ℕ, Bool, List, length, All, IsTrue, IsSome, String, None}
use Rattle.std.specs.declared.alloc.Global.{Global}
use Rattle.commit_catalog.specs.declared.Limits.{Limits}
use Rattle.lake_io.specs.declared.answers.End.{End}
use Rattle.object_store.specs.Files.{Files, names_of}
use Rattle.table_model.specs.World.{WorldData, log_of}
use Rattle.table_model.specs.Consistency.{IsConsistent}
use Rattle.table_model.specs.Knowledge.{Knowledge, at_start}
use Rattle.table_model.specs.Holding.{terms_of}
use Rattle.table_world.specs.Worlds.{first_log_name}
use Rattle.publisher.specs.Worlds.{IsSettled}
use Rattle.answer_names.specs.Together.{versions_in, faults_in}
use Rattle.answer_names.specs.Others.{IsUncontested, IsUntaken}
use Rattle.table_session.specs.Moments.{names_in}
use Rattle.table_session.specs.Over.{ToldOver}
use Rattle.table_session.specs.Sessions.{SessionOf}
use Rattle.table_session.specs.Views.{SourceView, SinkView, ClockView, IdsView}
use Rattle.delta_cli.specs.Words.{IsRun}
use Rattle.delta_cli.specs.Endings.{IsStatusOf, IsCutShort, DrainsWithoutFault}
use Rattle.delta_cli.specs.declared.endings.Status.{Status}
use Rattle.delta_cli.specs.declared.endings.Status.TheVariants as status

-- the limits of a run's table: versions, unpublished versions, attempts of a write, bytes of a commit
abbrev pub run_limits : Limits
run_limits = record { versions = 1000000; unpublished = 1000000; attempts = 64; bytes = 16777216 }

-- why no session was begun: by the words, the names in the folder, and the store's count of faults before and now
abbrev pub NotRunBy : List (String Global) → Bool → Files → ℕ → ℕ → Status → Type 0
NotRunBy words tells files before now status.Done = ⊥
NotRunBy words tells files before now status.Usage = ¬ (IsRun words) × (now ≡ before)
NotRunBy words tells files before now status.Memory = IsRun words × (now ≡ before)
NotRunBy words tells files before now status.ReadFault = ⊥
NotRunBy words tells files before now status.WriteFault = ⊥
NotRunBy words tells files before now status.StoreFault = IsRun words × (now ≡ before + 1)
NotRunBy words tells files before now status.NotEmpty = IsRun words × (IsTrue tells → IsSome (first_log_name (names_of files)))
NotRunBy words tells files before now status.TooMuch = ⊥

-- how many commits the replies that were written whole tell of: all, or one less where the last reply was cut short
pub record CountsCommits (said unsaid log : ℕ) (st : Status) : Type 0 where
  pub all : said + unsaid ≡ log
  pub most : unsaid ≤ 1
  pub cut : 0 < unsaid → IsCutShort st

-- a session over a new table, and the world after the drain
pub record HasRun (limits : Limits) (tells : Bool) (files : Files) (before : ℕ) (source : SourceView) (sink : SinkView) (clock : ClockView) (ids : IdsView) (st : Status) (world : WorldData) : Type 0 where
  -- the folder had no name of the log
  pub empty : IsTrue tells → first_log_name (names_of files) ≡ None
  pub limits_are : world.limits ≡ limits
  pub consistent : IsConsistent world
  -- the store's count of faults when it was handed in
  pub first : world.first ≡ before
  -- the session, of one who knew nothing before it and had seen all commits after it
  pub ended : End
  pub known : Knowledge
  pub seen : known.seen ≡ log_of world
  pub session : SessionOf tells (at_start (terms_of world)) known source sink clock ids ended
  pub status_is : IsStatusOf ended st
  -- each reply is right of the commits of this world, fronts never fall, and none is above their number
  pub told : ToldOver tells session.session.moments (log_of world)
  -- nobody else ratifies: no reply is Conflict or Contended
  pub alone : All IsUncontested (names_in session.session.moments)
  -- nobody else stages: where the ids are all told to differ, no reply is Taken
  pub untaken : IsTrue tells → IsTrue ids.differ' → All IsUntaken (names_in session.session.moments)
  -- each commit of the table is that of one Committed reply
  pub commits : CountsCommits (length (versions_in (names_in session.session.said))) (length (versions_in (names_in session.session.unsaid))) (length (log_of world)) st
  -- by so much had the store's count of faults risen when the session ended; a Fault reply comes only where it rose, and it rose only where
  -- one comes
  pub rise : ℕ
  pub faults : IsTrue tells → 0 < faults_in (names_in session.session.moments) → 0 < rise
  pub silent : faults_in (names_in session.session.moments) ≡ 0 → rise ≡ 0
  -- in the drain it rose further, where that failed
  pub later : rise ≤ world.tally
  pub drain : st ≡ status.StoreFault → (rise < world.tally) ⊎ (¬ (IsTrue tells))
  pub quiet : DrainsWithoutFault st → world.tally ≡ rise
  pub settled : st ≡ status.Done → IsSettled world
