-- What a reader of lines stands at, and what one call of `next` does. `Lines` is seen as an `At`.
--     Handed             the number and the text of a line, or that it is too long
--     Hands, Ends, Stops, Loses      what a call did that answered a line, the end, a stop, want of memory
--     Answers            these, by the answer
--     Next               the bytes that the call took from the source, and its answer
--     Again              what an ended or stopped reader answers
--     LineCause          when a fault may be answered
--     CountsFault        the source's count of faults, by the answer
use Rattle.std.specs.Prelude.{◌≡◌, ◌≤◌, ◌<◌, ◌+◌, ◌⊎◌, ℕ, Bool, List, [], ◌∷◌, ◌++◌, length, Option, Some, None, Result, Ok, Err, IsTrue, ⊤}
use Rattle.text_lines.specs.Lines.{HasNoLf, cut, ended_lines}
use Rattle.lake_io.specs.Causes.{Rose}
use Rattle.lake_io.specs.Told.{Takes}
use Rattle.lake_io.specs.declared.reader.InputState.{InputState}
use Rattle.lake_io.specs.declared.reader.InputState.TheVariants as state
use Rattle.lake_io.specs.declared.reader.Line.{Line}
use Rattle.lake_io.specs.declared.reader.LineError.{LineError}
use Rattle.lake_io.specs.declared.reader.LineError.TheVariants as error

-- the most bytes of a line, and the most that are taken from a source
abbrev pub line_limit : ℕ
line_limit = 1048576

abbrev pub input_limit : ℕ
input_limit = 4294967296

-- the number of the last line, the number of bytes taken, the bytes taken that stand in no line yet, and whether the input goes on
pub record At : Type 0 where
  pub number : ℕ
  pub read : ℕ
  pub pending : List ℕ
  pub state : InputState

abbrev pub at_start : At
at_start = record { number = 0; read = 0; pending = []; state = state.Open }

-- a line of this number and text, or that the line of this number is too long
abbrev pub Handed : ℕ → List ℕ → Result (Option Line) LineError → Type 0
Handed number text (Ok None) = ⊥
Handed number text (Ok (Some line)) = (line.number ≡ number) × (line.text.items ≡ text) × (length text ≤ line_limit)
Handed number text (Err error.ReadFault) = ⊥
Handed number text (Err (error.TooLong at)) = (at ≡ number) × (line_limit < length text)
Handed number text (Err error.TooMuch) = ⊥
Handed number text (Err error.Memory) = ⊥

-- an LF ended the line; what stands after it is pending
pub record LineEnds (at : At) (bytes text : List ℕ) (at' : At) : Type 0 where
  pub rest : List ℕ
  pub split : at.pending ++ bytes ≡ text ++ 10 ∷ rest
  pub is : at' ≡ record { number = at.number + 1; read = at.read + length bytes; pending = rest; state = state.Open }

-- the input ended the line
pub record InputEnds (tells : Bool) (left' : List ℕ) (at : At) (bytes text : List ℕ) (at' : At) : Type 0 where
  pub some : 0 < length text
  pub all : at.pending ++ bytes ≡ text
  pub whole : IsTrue tells → left' ≡ []
  pub room : at.read + length bytes < input_limit
  pub is : at' ≡ record { number = at.number + 1; read = at.read + length bytes; pending = []; state = state.Ended }

-- the next line is this text
pub record Hands (tells : Bool) (left' : List ℕ) (at : At) (bytes text : List ℕ) (at' : At) : Type 0 where
  pub open_was : at.state ≡ state.Open
  pub no_lf : HasNoLf text
  pub ends : LineEnds at bytes text at' ⊎ InputEnds tells left' at bytes text at'

-- the input has ended, and nothing of it is pending
pub record Ends (tells : Bool) (left' : List ℕ) (at : At) (bytes : List ℕ) (at' : At) : Type 0 where
  pub was : (at.state ≡ state.Open) ⊎ (at.state ≡ state.Ended)
  pub none : at.pending ++ bytes ≡ []
  pub whole : at.state ≡ state.Open → IsTrue tells → left' ≡ []
  pub room : at.read + length bytes < input_limit
  pub is : at' ≡ record { number = at.number; read = at.read + length bytes; pending = []; state = state.Ended }

-- no LF is left in what was taken, and reading goes on no more
pub record Stops (at : At) (bytes : List ℕ) (state' : InputState) (at' : At) : Type 0 where
  pub was : (at.state ≡ state.Open) ⊎ (at.state ≡ state')
  pub no_lf : HasNoLf (at.pending ++ bytes)
  pub is : at' ≡ record { number = at.number; read = at.read + length bytes; pending = []; state = state' }

-- memory ran out, and reading goes on no more
pub record Loses (at : At) (bytes : List ℕ) (at' : At) : Type 0 where
  pub was : (at.state ≡ state.Open) ⊎ (at.state ≡ state.Lost)
  pub is : at' ≡ record { number = at.number; read = at.read + length bytes; pending = []; state = state.Lost }

-- the next line and its answer
pub record HandsLine (tells : Bool) (left' : List ℕ) (at : At) (bytes : List ℕ) (result : Result (Option Line) LineError) (at' : At) : Type 0 where
  pub text : List ℕ
  pub handed : Handed (at.number + 1) text result
  pub hands : Hands tells left' at bytes text at'

abbrev pub Answers : Bool → List ℕ → At → List ℕ → Result (Option Line) LineError → At → Type 0
Answers tells left' at bytes (Ok None) at' = Ends tells left' at bytes at'
Answers tells left' at bytes (Ok (Some line)) at' = HandsLine tells left' at bytes (Ok (Some line)) at'
Answers tells left' at bytes (Err error.ReadFault) at' = Stops at bytes state.Failed at' × (at.read + length bytes < input_limit)
Answers tells left' at bytes (Err (error.TooLong n)) at' = HandsLine tells left' at bytes (Err (error.TooLong n)) at'
Answers tells left' at bytes (Err error.TooMuch) at' = Stops at bytes state.Full at' × (at.read + length bytes ≡ input_limit)
Answers tells left' at bytes (Err error.Memory) at' = Loses at bytes at'

-- bytes were taken only where no LF was pending: a line that was read whole is answered before more is asked for
pub record Next (tells : Bool) (taken left taken' left' : List ℕ) (at : At) (result : Result (Option Line) LineError) (at' : At) : Type 0 where
  pub bytes : List ℕ
  pub takes : Takes tells taken left bytes taken' left'
  pub asked : (bytes ≡ []) ⊎ HasNoLf at.pending
  pub answers : Answers tells left' at bytes result at'

-- an answer that is given again and again: neither the reader nor the source changes
pub record Rests {S : Type 0} (source source' : S) (at : At) (answer result : Result (Option Line) LineError) (at' : At) : Type 0 where
  pub answer_is : result ≡ answer
  pub at_is : at' ≡ at
  pub source_is : source' ≡ source

abbrev pub AgainBy : {S : Type 0} → InputState → S → S → At → Result (Option Line) LineError → At → Type 0
AgainBy state.Open s s' at result at' = ⊤
AgainBy state.Ended s s' at result at' = Rests s s' at (Ok None) result at'
AgainBy state.Failed s s' at result at' = Rests s s' at (Err error.ReadFault) result at'
AgainBy state.Full s s' at result at' = Rests s s' at (Err error.TooMuch) result at'
AgainBy state.Lost s s' at result at' = Rests s s' at (Err error.Memory) result at'

abbrev pub Again : {S : Type 0} → S → S → At → Result (Option Line) LineError → At → Type 0
Again s s' at result at' = AgainBy at.state s s' at result at'

-- the count of faults never fell, and a fault was answered only where it went up or where the same answer stood before
pub record LineCause (before now : ℕ) (at : At) (result : Result (Option Line) LineError) : Type 0 where
  pub later : before ≤ now
  pub failed : result ≡ Err error.ReadFault → (at.state ≡ state.Failed) ⊎ Rose before now

-- the count of faults went up only where a fault is answered
abbrev pub CountsFault : {A : Type 0} → ℕ → Result A LineError → ℕ → Type 0
CountsFault before (Ok answer) now = now ≡ before
CountsFault before (Err error.ReadFault) now = before ≤ now
CountsFault before (Err (error.TooLong at)) now = now ≡ before
CountsFault before (Err error.TooMuch) now = now ≡ before
CountsFault before (Err error.Memory) now = now ≡ before

-- what is held: no more than a piece is pending, and each line has at least one byte, the last one perhaps none
pub record Holds (at : At) : Type 0 where
  pub piece : length at.pending ≤ 65536
  pub read : at.read ≤ input_limit
  pub lines : at.number ≤ at.read + 1

-- What a caller knows in a loop over `next`: of a source's bytes these lines were handed, too long ones among them, and the rest is pending.
pub record Heard (tells : Bool) (left bytes : List ℕ) (handed : List (List ℕ)) (at : At) : Type 0 where
  pub cut_is : (more : List ℕ) → (at.state ≡ state.Ended → more ≡ []) → cut (bytes ++ more) ≡ handed ++ cut (at.pending ++ more)
  pub ended_is : at.state ≡ state.Open → (more : List ℕ) → ended_lines (bytes ++ more) ≡ handed ++ ended_lines (at.pending ++ more)
  pub number_is : at.number ≡ length handed
  pub read_is : at.read ≡ length bytes
  pub whole : at.state ≡ state.Ended → IsTrue tells → left ≡ []
  pub going : (at.state ≡ state.Open) ⊎ (at.state ≡ state.Ended)

-- at the end of the input: all its lines were handed, and nothing is left
pub record HeardAll (tells : Bool) (left bytes : List ℕ) (handed : List (List ℕ)) : Type 0 where
  pub lines : cut bytes ≡ handed
  pub whole : IsTrue tells → left ≡ []

-- the handed lines are the first ones
pub record HeardFirst (bytes : List ℕ) (handed : List (List ℕ)) : Type 0 where
  pub others : List (List ℕ)
  pub is : cut bytes ≡ handed ++ others

-- one line more, of this number
pub record HeardLine (tells : Bool) (left bytes : List ℕ) (handed : List (List ℕ)) (number : ℕ) (text : List ℕ) (at : At) : Type 0 where
  pub number_is : number ≡ length handed + 1
  pub heard : Heard tells left bytes (handed ++ text ∷ []) at

-- one line more, which is too long
pub record HeardLong (tells : Bool) (left bytes : List ℕ) (handed : List (List ℕ)) (number : ℕ) (at : At) : Type 0 where
  pub text : List ℕ
  pub long : line_limit < length text
  pub line : HeardLine tells left bytes handed number text at

-- What a caller knows after an answer, where these lines were handed before it: `bytes` are all that were taken, those of this call too.
abbrev pub HeardAfter : Bool → List ℕ → List ℕ → List (List ℕ) → Result (Option Line) LineError → At → Type 0
HeardAfter tells left bytes handed (Ok None) at = HeardAll tells left bytes handed
HeardAfter tells left bytes handed (Ok (Some line)) at = HeardLine tells left bytes handed line.number line.text.items at × (length line.text.items ≤ line_limit)
HeardAfter tells left bytes handed (Err error.ReadFault) at = ended_lines bytes ≡ handed
HeardAfter tells left bytes handed (Err (error.TooLong number)) at = HeardLong tells left bytes handed number at
HeardAfter tells left bytes handed (Err error.TooMuch) at = (ended_lines bytes ≡ handed) × (length bytes ≡ input_limit)
HeardAfter tells left bytes handed (Err error.Memory) at = HeardFirst bytes handed
