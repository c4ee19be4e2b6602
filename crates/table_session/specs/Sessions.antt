-- A session: what was read, what was written, and how it ended.
use Rattle.std.specs.Prelude.{◌≡◌, ◌≤◌, ◌<◌, ◌++◌, ℕ, Bool, List, [], ◌∷◌, length, All, IsTrue}
use Rattle.text_lines.specs.Lines.{Numbered, cut, ended_lines}
use Rattle.lake_io.specs.declared.answers.End.{End}
use Rattle.lake_io.specs.declared.answers.End.TheVariants as end
use Rattle.lake_io.specs.Reading.{input_limit}
use Rattle.lake_io.specs.Told.{Takes, told}
use Rattle.lake_io.specs.Causes.{Rose}
use Rattle.session_lines.specs.Replies.{reply_text_of}
use Rattle.table_model.specs.Knowledge.{Knowledge}
use Rattle.answer_names.specs.Together.{takens_in}
use Rattle.table_session.specs.Moments.{Moment, lines_of, texts_of, names_in}
use Rattle.table_session.specs.Asking.{lines_asking}
use Rattle.table_session.specs.Running.{Run}
use Rattle.table_session.specs.Told.{Told}
use Rattle.table_session.specs.Views.{SourceView, SinkView, ClockView, IdsView}
use Rattle.writer_txn.specs.Named.{NamesApart}

-- the first of a list of lines
pub record IsFirstOf (lines whole : List Numbered) : Type 0 where
  pub others : List Numbered
  pub is : whole ≡ lines ++ others

-- as many bytes as are taken of an input, and no line that an LF ends is left of them
pub record HeardMost (read : List ℕ) (lines : List Numbered) : Type 0 where
  pub all : lines ≡ lines_asking (ended_lines read)
  pub most : length read ≡ input_limit

-- the lines that have a reply, by how the session ended: all lines of what was read, all that an LF ends, or the first ones
abbrev pub Heard : List ℕ → List Numbered → End → Type 0
Heard read lines end.Done = lines ≡ lines_asking (cut read)
Heard read lines end.ReadFault = lines ≡ lines_asking (ended_lines read)
Heard read lines end.TooMuch = HeardMost read lines
Heard read lines end.WriteFault = IsFirstOf lines (lines_asking (cut read))
Heard read lines end.Memory = IsFirstOf lines (lines_asking (cut read))

-- every reply was written whole
pub record WroteAll (wrote : List ℕ) (said unsaid : List Moment) : Type 0 where
  pub none : unsaid ≡ []
  pub is : wrote ≡ texts_of said

-- a part of the last reply is lacking
pub record WroteShort (wrote : List ℕ) (said unsaid : List Moment) : Type 0 where
  pub last : Moment
  pub one : unsaid ≡ last ∷ []
  pub part : List ℕ
  pub lacking : List ℕ
  pub some : 0 < length lacking
  pub text : reply_text_of last.reply ≡ part ++ lacking
  pub is : wrote ≡ texts_of said ++ part

-- the last reply may not have been written at all
pub record WroteSome (wrote : List ℕ) (said unsaid : List Moment) : Type 0 where
  pub one : length unsaid ≤ 1
  pub is : wrote ≡ texts_of said

abbrev pub Wrote : List ℕ → List Moment → List Moment → End → Type 0
Wrote wrote said unsaid end.Done = WroteAll wrote said unsaid
Wrote wrote said unsaid end.ReadFault = WroteAll wrote said unsaid
Wrote wrote said unsaid end.TooMuch = WroteAll wrote said unsaid
Wrote wrote said unsaid end.WriteFault = WroteShort wrote said unsaid
Wrote wrote said unsaid end.Memory = WroteSome wrote said unsaid

-- Each line that asks for something has its reply, in order; the replies whose texts were written whole are `said`.
pub record Session (tells : Bool) (read wrote : List ℕ) (k m : Knowledge) (ended : End) : Type 0 where
  pub moments : List Moment
  pub run : Run tells k moments m
  pub told : Told tells k moments m
  pub heard : Heard read (lines_of moments) ended
  pub said : List Moment
  pub unsaid : List Moment
  pub all : moments ≡ said ++ unsaid
  pub wrote_is : Wrote wrote said unsaid ended

-- The same between a source and a sink, of which some bytes were read and written, a clock, and ids: where these are all told to differ
-- afterwards, no name of a Taken reply was put in the session. With Done nothing is left to read.
pub record SessionOf (tells : Bool) (k m : Knowledge) (source : SourceView) (sink : SinkView) (clock : ClockView) (ids : IdsView) (ended : End) : Type 0 where
  pub read : List ℕ
  pub wrote : List ℕ
  pub session : Session tells read wrote k m ended
  pub reads : Takes source.tells source.taken source.left read source.taken' source.left'
  pub writes : sink.written' ≡ sink.written ++ told sink.tells wrote
  pub readings : IsTrue clock.fixed → All (λ x. x.reading ≡ clock.reading) session.moments
  pub names : IsTrue ids.differ' → NamesApart ids.differ ids.given ids.given' (takens_in (names_in session.moments)) k m
  pub whole : ended ≡ end.Done → IsTrue source.tells → source.left' ≡ []

-- a count that never falls, and went up where this holds
pub record IsCaused (failed : Type 0) (before now : ℕ) : Type 0 where
  pub later : before ≤ now
  pub rose : failed → Rose before now
