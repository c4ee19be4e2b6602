-- What one call that hears the next line gives.
use Rattle.std.specs.Prelude.{◌≡◌, ◌≤◌, ◌<◌, ◌+◌, ◌++◌, ℕ, Bool, List, [], ◌∷◌, length, Option, Some, None, Result, Ok, Err}
use Rattle.text_lines.specs.Lines.{Numbered, numbered, ended_lines}
use Rattle.lake_io.specs.Told.{Takes}
use Rattle.lake_io.specs.Reading.{At, Heard, HeardAll, HeardFirst, line_limit, input_limit}
use Rattle.lake_io.specs.declared.answers.End.{End}
use Rattle.lake_io.specs.declared.answers.End.TheVariants as end
use Rattle.lake_io.specs.declared.reader.Line.{Line}
use Rattle.lake_io.specs.declared.reader.LineError.{LineError}
use Rattle.lake_io.specs.declared.reader.LineError.TheVariants as error
use Rattle.table_session.specs.declared.hearing.Asked.{Asked}
use Rattle.table_session.specs.declared.hearing.Asked.TheVariants as asked

-- how the next line, or the want of one, is heard
abbrev pub heard_as : Result (Option Line) LineError → Result Asked End
heard_as (Ok (Some line)) = Ok (asked.Line line)
heard_as (Ok None) = Err end.Done
heard_as (Err (error.TooLong at)) = Ok (asked.TooLong at)
heard_as (Err error.ReadFault) = Err end.ReadFault
heard_as (Err error.TooMuch) = Err end.TooMuch
heard_as (Err error.Memory) = Err end.Memory

-- the line as it was read, or that it is too long
pub record IsRead (line : Numbered) (read : Line) : Type 0 where
  pub number : read.number ≡ line.at
  pub text : read.text.items ≡ line.text
  pub short : length line.text ≤ line_limit

pub record IsLong (line : Numbered) (at : ℕ) : Type 0 where
  pub number : at ≡ line.at
  pub long : line_limit < length line.text

abbrev pub IsAskedIn : Numbered → Asked → Type 0
IsAskedIn line (asked.Line read) = IsRead line read
IsAskedIn line (asked.TooLong at) = IsLong line at

-- one line more
pub record HearsLine (tells : Bool) (taken left bytes : List ℕ) (handed : List (List ℕ)) (a : Asked) (taken' left' : List ℕ) (at' : At) : Type 0 where
  pub text : List ℕ
  pub line : IsAskedIn (numbered (length handed + 1) text) a
  pub new : List ℕ
  pub takes : Takes tells taken left new taken' left'
  pub heard : Heard tells left' (bytes ++ new) (handed ++ text ∷ []) at'

-- no further line
abbrev pub HeardEnd : Bool → List ℕ → List ℕ → List (List ℕ) → End → Type 0
HeardEnd tells left read handed end.Done = HeardAll tells left read handed
HeardEnd tells left read handed end.ReadFault = ended_lines read ≡ handed
HeardEnd tells left read handed end.TooMuch = (ended_lines read ≡ handed) × (length read ≡ input_limit)
HeardEnd tells left read handed end.WriteFault = ⊥
HeardEnd tells left read handed end.Memory = HeardFirst read handed

pub record HearsEnd (tells : Bool) (taken left bytes : List ℕ) (handed : List (List ℕ)) (ended : End) (taken' left' : List ℕ) : Type 0 where
  pub new : List ℕ
  pub takes : Takes tells taken left new taken' left'
  pub heard : HeardEnd tells left' (bytes ++ new) handed ended

abbrev pub Hears : Bool → List ℕ → List ℕ → List ℕ → List (List ℕ) → Result Asked End → List ℕ → List ℕ → At → Type 0
Hears tells taken left bytes handed (Ok a) taken' left' at' = HearsLine tells taken left bytes handed a taken' left' at'
Hears tells taken left bytes handed (Err ended) taken' left' at' = HearsEnd tells taken left bytes handed ended taken' left'
