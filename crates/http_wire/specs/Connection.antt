-- What a reader of requests stands at, and what one call of `next_request` does. `Wire` is seen as a `WireAt`.
--     Next               the bytes that the call took from the source, and its answer
--     Again              what an ended or stopped reader answers
--     WireCause          when a fault may be answered
--     CountsFault        the source's count of faults, by the answer
use Rattle.std.specs.Prelude.{ℕ, ◌≡◌, ◌+◌, ◌<◌, ◌≤◌, ◌⊎◌, Bool, List, [], ◌++◌, length, IsTrue, Option, Some, None, Result, Ok, Err, ⊤}
use Rattle.lake_io.specs.Causes.{Rose}
use Rattle.lake_io.specs.Reading.{input_limit}
use Rattle.lake_io.specs.Told.{Takes}
use Rattle.http_wire.specs.Found.{GivesRequest}
use Rattle.http_wire.specs.Requests.{IsRefused, IsUnfinished}
use Rattle.http_wire.specs.declared.request.Request.{Request}
use Rattle.http_wire.specs.declared.request.WireError.{WireError}
use Rattle.http_wire.specs.declared.request.WireError.TheVariants as error
use Rattle.http_wire.specs.declared.wire.WireState.{WireState}
use Rattle.http_wire.specs.declared.wire.WireState.TheVariants as state

-- the number of bytes taken, the bytes taken that stand in no request yet, and whether the input goes on
pub record WireAt : Type 0 where
  pub read : ℕ
  pub pending : List ℕ
  pub state : WireState

abbrev pub at_start : WireAt
at_start = record { read = 0; pending = []; state = state.Open }

-- reading goes on no more
abbrev pub stopped : ℕ → WireError → WireAt
stopped read error = record { read = read; pending = []; state = state.Stopped error }

-- the next request stands at the front, and the bytes after it are pending
pub record Hands (limit : ℕ) (at : WireAt) (bytes : List ℕ) (request : Request) (at' : WireAt) : Type 0 where
  pub rest : List ℕ
  pub gives : GivesRequest limit (at.pending ++ bytes) request rest
  pub is : at' ≡ record { read = at.read + length bytes; pending = rest; state = state.Open }

-- the input has ended between two requests
pub record Ends (tells : Bool) (left' : List ℕ) (at : WireAt) (bytes : List ℕ) (at' : WireAt) : Type 0 where
  pub none : at.pending ++ bytes ≡ []
  pub whole : IsTrue tells → left' ≡ []
  pub room : at.read + length bytes < input_limit
  pub is : at' ≡ record { read = at.read + length bytes; pending = []; state = state.Ended }

-- the bytes are refused
pub record Refuses (limit : ℕ) (at : WireAt) (bytes : List ℕ) (status : ℕ) (at' : WireAt) : Type 0 where
  pub refused : IsRefused limit (at.pending ++ bytes) status
  pub is : at' ≡ stopped (at.read + length bytes) (error.Refuse status)

-- the input has ended inside a request
pub record Cuts (tells : Bool) (left' : List ℕ) (limit : ℕ) (at : WireAt) (bytes : List ℕ) (at' : WireAt) : Type 0 where
  pub some : 0 < length (at.pending ++ bytes)
  pub unfinished : IsUnfinished limit (at.pending ++ bytes)
  pub whole : IsTrue tells → left' ≡ []
  pub room : at.read + length bytes < input_limit
  pub is : at' ≡ stopped (at.read + length bytes) error.Cut

-- no whole request and no refusal is left of what was taken, and no more comes
pub record Stops (limit : ℕ) (at : WireAt) (bytes : List ℕ) (error : WireError) (at' : WireAt) : Type 0 where
  pub unfinished : IsUnfinished limit (at.pending ++ bytes)
  pub is : at' ≡ stopped (at.read + length bytes) error

abbrev pub Answers : Bool → List ℕ → ℕ → WireAt → List ℕ → Result (Option Request) WireError → WireAt → Type 0
Answers tells left' limit at bytes (Ok (Some request)) at' = Hands limit at bytes request at'
Answers tells left' limit at bytes (Ok None) at' = Ends tells left' at bytes at'
Answers tells left' limit at bytes (Err (error.Refuse status)) at' = Refuses limit at bytes status at'
Answers tells left' limit at bytes (Err error.Cut) at' = Cuts tells left' limit at bytes at'
Answers tells left' limit at bytes (Err error.ReadFault) at' = Stops limit at bytes error.ReadFault at' × (at.read + length bytes < input_limit)
Answers tells left' limit at bytes (Err error.TooMuch) at' = Stops limit at bytes error.TooMuch at' × (at.read + length bytes ≡ input_limit)
Answers tells left' limit at bytes (Err error.Memory) at' = at' ≡ stopped (at.read + length bytes) error.Memory

-- some bytes were taken, and those before the last piece left less than a request
pub record LastPiece (limit : ℕ) (pending bytes : List ℕ) : Type 0 where
  pub front : List ℕ
  pub piece : List ℕ
  pub split : bytes ≡ front ++ piece
  pub small : length piece ≤ 65536
  pub unfinished : IsUnfinished limit (pending ++ front)

-- A piece is asked for only where there is less than a request: what was received whole is answered before more is asked for.
abbrev pub Asked : ℕ → List ℕ → List ℕ → Type 0
Asked limit pending bytes = (bytes ≡ []) ⊎ LastPiece limit pending bytes

pub record Next (tells : Bool) (taken left taken' left' : List ℕ) (limit : ℕ) (at : WireAt) (result : Result (Option Request) WireError) (at' : WireAt) : Type 0 where
  pub bytes : List ℕ
  pub takes : Takes tells taken left bytes taken' left'
  pub asked : Asked limit at.pending bytes
  pub answers : Answers tells left' limit at bytes result at'

-- an answer that is given again and again: neither the reader nor the source changes
pub record Rests {S : Type 0} (source source' : S) (at : WireAt) (answer result : Result (Option Request) WireError) (at' : WireAt) : Type 0 where
  pub answer_is : result ≡ answer
  pub at_is : at' ≡ at
  pub source_is : source' ≡ source

abbrev pub AgainBy : {S : Type 0} → WireState → S → S → WireAt → Result (Option Request) WireError → WireAt → Type 0
AgainBy state.Open s s' at result at' = ⊤
AgainBy state.Ended s s' at result at' = Rests s s' at (Ok None) result at'
AgainBy (state.Stopped e) s s' at result at' = Rests s s' at (Err e) result at'

abbrev pub Again : {S : Type 0} → S → S → WireAt → Result (Option Request) WireError → WireAt → Type 0
Again s s' at result at' = AgainBy at.state s s' at result at'

-- an open reader goes on
abbrev pub NextBy : WireState → Type 0 → Type 0
NextBy state.Open P = P
NextBy state.Ended P = ⊤
NextBy (state.Stopped e) P = ⊤

-- the count of faults never fell, and a fault was answered only where it went up or where the same answer stood before
pub record WireCause (before now : ℕ) (at : WireAt) (result : Result (Option Request) WireError) : Type 0 where
  pub later : before ≤ now
  pub failed : result ≡ Err error.ReadFault → (at.state ≡ state.Stopped error.ReadFault) ⊎ Rose before now

-- the count of faults went up only where a fault is answered
abbrev pub CountsFault : {A : Type 0} → ℕ → Result A WireError → ℕ → Type 0
CountsFault before (Ok answer) now = now ≡ before
CountsFault before (Err (error.Refuse status)) now = now ≡ before
CountsFault before (Err error.Cut) now = now ≡ before
CountsFault before (Err error.ReadFault) now = before ≤ now
CountsFault before (Err error.TooMuch) now = now ≡ before
CountsFault before (Err error.Memory) now = now ≡ before
