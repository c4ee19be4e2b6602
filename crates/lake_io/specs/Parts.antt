-- A line that is read in parts.
use Rattle.std.specs.Prelude.{◌≡◌, ◌⊎◌, ◌≤◌, ◌<◌, ◌+◌, ℕ, Bool, true, false, List, [], ◌∷◌, ◌++◌, length, take, drop, IsTrue, Option, None, Result, Ok, Err}
use Rattle.text_lines.specs.Lines.{HasNoLf}
use Rattle.lake_io.specs.Reading.{At, Handed, input_limit, line_limit}
use Rattle.lake_io.specs.Told.{Takes}
use Rattle.lake_io.specs.declared.reader.Part.{Part}
use Rattle.lake_io.specs.declared.reader.Line.{Line}
use Rattle.lake_io.specs.declared.reader.LineError.{LineError}
use Rattle.lake_io.specs.declared.reader.LineError.TheVariants as error
use Rattle.lake_io.specs.declared.reader.InputState.{InputState}
use Rattle.lake_io.specs.declared.reader.InputState.TheVariants as state

-- the first LF of the bytes stands at this place
pub record IsFirstLf (bytes : List ℕ) (i : ℕ) : Type 0 where
  pub room : i < length bytes
  pub no_lf : HasNoLf (take i bytes)
  pub split : bytes ≡ take i bytes ++ 10 ∷ drop (i + 1) bytes

-- the part of a line that was read is this text; a text that is too long is not kept
pub record IsPart (part : Part) (text : List ℕ) : Type 0 where
  pub no_lf : HasNoLf text
  pub kept : part.long ≡ false → part.text.items ≡ text
  pub fits : part.long ≡ false → length text ≤ line_limit
  pub passed : part.long ≡ true → line_limit < length text

-- what is pending up to its first LF went over to the part, and the LF away; or all of it, where there is none
pub record MovesLine (at : At) (text : List ℕ) (at' : At) (part' : Part) : Type 0 where
  pub front : List ℕ
  pub rest : List ℕ
  pub split : at.pending ≡ front ++ 10 ∷ rest
  pub is : at' ≡ record { number = at.number + 1; read = at.read; pending = rest; state = at.state }
  pub part : IsPart part' (text ++ front)

pub record MovesAll (at : At) (text : List ℕ) (at' : At) (part' : Part) : Type 0 where
  pub is : at' ≡ record { number = at.number; read = at.read; pending = []; state = at.state }
  pub part : IsPart part' (text ++ at.pending)

abbrev pub Moves : At → List ℕ → Bool → At → Part → Type 0
Moves at text true at' part' = MovesLine at text at' part'
Moves at text false at' part' = MovesAll at text at' part'

-- the source gave some bytes, which are pending now
pub record FillsSome (tells : Bool) (taken left : List ℕ) (at : At) (taken' left' : List ℕ) (at' : At) : Type 0 where
  pub bytes : List ℕ
  pub some : 0 < length bytes
  pub takes : Takes tells taken left bytes taken' left'
  pub limit : at.read + length bytes ≤ input_limit
  pub is : at' ≡ record { number = at.number; read = at.read + length bytes; pending = bytes; state = at.state }

-- the source has ended
pub record FillsNone (tells : Bool) (taken left : List ℕ) (at : At) (taken' left' : List ℕ) (at' : At) : Type 0 where
  pub takes : Takes tells taken left [] taken' left'
  pub whole : IsTrue tells → left' ≡ []
  pub room : at.read < input_limit
  pub is : at' ≡ at

-- the source gave nothing, and reading goes on no more
pub record FillStops (tells : Bool) (taken left : List ℕ) (at : At) (state' : InputState) (taken' left' : List ℕ) (at' : At) : Type 0 where
  pub takes : Takes tells taken left [] taken' left'
  pub is : at' ≡ record { number = at.number; read = at.read; pending = at.pending; state = state' }

abbrev pub Fills : Bool → List ℕ → List ℕ → At → Result Bool LineError → List ℕ → List ℕ → At → Type 0
Fills tells taken left at (Ok true) taken' left' at' = FillsSome tells taken left at taken' left' at'
Fills tells taken left at (Ok false) taken' left' at' = FillsNone tells taken left at taken' left' at'
Fills tells taken left at (Err error.ReadFault) taken' left' at' = FillStops tells taken left at state.Failed taken' left' at' × (at.read < input_limit)
Fills tells taken left at (Err (error.TooLong n)) taken' left' at' = ⊥
Fills tells taken left at (Err error.TooMuch) taken' left' at' = FillStops tells taken left at state.Full taken' left' at' × (at.read ≡ input_limit)
Fills tells taken left at (Err error.Memory) taken' left' at' = ⊥

-- the input has ended: nothing was read of a further line, or the last line is this text
pub record DoneNone (at : At) (text : List ℕ) (result : Result (Option Line) LineError) (at' : At) : Type 0 where
  pub none : text ≡ []
  pub result_is : result ≡ Ok None
  pub is : at' ≡ record { number = at.number; read = at.read; pending = []; state = state.Ended }

pub record DoneLine (at : At) (text : List ℕ) (result : Result (Option Line) LineError) (at' : At) : Type 0 where
  pub some : 0 < length text
  pub handed : Handed (at.number + 1) text result
  pub is : at' ≡ record { number = at.number + 1; read = at.read; pending = []; state = state.Ended }

-- in the midst of a line: these bytes were taken since the call began, and this text is the line so far
pub record InLine (tells : Bool) (taken left : List ℕ) (at : At) (taken' left' : List ℕ) (at' : At) (part : Part) : Type 0 where
  pub bytes : List ℕ
  pub text : List ℕ
  pub takes : Takes tells taken left bytes taken' left'
  pub asked : (bytes ≡ []) ⊎ HasNoLf at.pending
  pub split : at.pending ++ bytes ≡ text ++ at'.pending
  pub is : at' ≡ record { number = at.number; read = at.read + length bytes; pending = at'.pending; state = state.Open }
  pub part_is : IsPart part text
