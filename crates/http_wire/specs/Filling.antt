-- The steps of a reader: how bytes come from a source, and how a request is taken from them.
use Rattle.std.specs.Prelude.{ℕ, ◌≡◌, ◌+◌, ◌<◌, ◌≤◌, Bool, true, false, List, [], ◌++◌, length, IsTrue, Option, Some, None, Result, Ok, Err}
use Rattle.lake_io.specs.Reading.{input_limit}
use Rattle.lake_io.specs.Told.{Takes}
use Rattle.http_wire.specs.Connection.{WireAt, Asked}
use Rattle.http_wire.specs.Found.{GivesRequest}
use Rattle.http_wire.specs.Requests.{IsRefused, IsUnfinished}
use Rattle.http_wire.specs.declared.request.Request.{Request}
use Rattle.http_wire.specs.declared.request.WireError.{WireError}
use Rattle.http_wire.specs.declared.request.WireError.TheVariants as error

-- a request at the front was taken, or there is less than a request, or it is refused
pub record TakesNext (limit : ℕ) (at : WireAt) (request : Request) (at' : WireAt) : Type 0 where
  pub rest : List ℕ
  pub gives : GivesRequest limit at.pending request rest
  pub is : at' ≡ record { read = at.read; pending = rest; state = at.state }

pub record TakesNone (limit : ℕ) (at at' : WireAt) : Type 0 where
  pub unfinished : IsUnfinished limit at.pending
  pub is : at' ≡ at

pub record TakesRefusal (limit : ℕ) (at : WireAt) (status : ℕ) (at' : WireAt) : Type 0 where
  pub refused : IsRefused limit at.pending status
  pub is : at' ≡ at

abbrev pub TakesFront : ℕ → WireAt → Result (Option Request) WireError → WireAt → Type 0
TakesFront limit at (Ok (Some request)) at' = TakesNext limit at request at'
TakesFront limit at (Ok None) at' = TakesNone limit at at'
TakesFront limit at (Err (error.Refuse status)) at' = TakesRefusal limit at status at'
TakesFront limit at (Err error.Cut) at' = ⊥
TakesFront limit at (Err error.ReadFault) at' = ⊥
TakesFront limit at (Err error.TooMuch) at' = ⊥
TakesFront limit at (Err error.Memory) at' = at' ≡ at

-- the source gave some bytes, which are pending now
pub record FillsSome (tells : Bool) (taken left : List ℕ) (at : WireAt) (taken' left' : List ℕ) (at' : WireAt) : Type 0 where
  pub bytes : List ℕ
  pub some : 0 < length bytes
  pub piece : length bytes ≤ 65536
  pub takes : Takes tells taken left bytes taken' left'
  pub limit : at.read + length bytes ≤ input_limit
  pub is : at' ≡ record { read = at.read + length bytes; pending = at.pending ++ bytes; state = at.state }

-- the source has ended
pub record FillsNone (tells : Bool) (taken left : List ℕ) (at : WireAt) (taken' left' : List ℕ) (at' : WireAt) : Type 0 where
  pub takes : Takes tells taken left [] taken' left'
  pub whole : IsTrue tells → left' ≡ []
  pub room : at.read < input_limit
  pub is : at' ≡ at

-- the source gave nothing
pub record FillStops (tells : Bool) (taken left : List ℕ) (at : WireAt) (taken' left' : List ℕ) (at' : WireAt) : Type 0 where
  pub takes : Takes tells taken left [] taken' left'
  pub is : at' ≡ at

-- memory ran out for what the source gave
pub record FillLoses (tells : Bool) (taken left : List ℕ) (at : WireAt) (taken' left' : List ℕ) (at' : WireAt) : Type 0 where
  pub bytes : List ℕ
  pub piece : length bytes ≤ 65536
  pub takes : Takes tells taken left bytes taken' left'
  pub read_is : at'.read ≡ at.read + length bytes
  pub state_is : at'.state ≡ at.state

abbrev pub Fills : Bool → List ℕ → List ℕ → WireAt → Result Bool WireError → List ℕ → List ℕ → WireAt → Type 0
Fills tells taken left at (Ok true) taken' left' at' = FillsSome tells taken left at taken' left' at'
Fills tells taken left at (Ok false) taken' left' at' = FillsNone tells taken left at taken' left' at'
Fills tells taken left at (Err (error.Refuse status)) taken' left' at' = ⊥
Fills tells taken left at (Err error.Cut) taken' left' at' = ⊥
Fills tells taken left at (Err error.ReadFault) taken' left' at' = FillStops tells taken left at taken' left' at' × (at.read < input_limit)
Fills tells taken left at (Err error.TooMuch) taken' left' at' = FillStops tells taken left at taken' left' at' × (at.read ≡ input_limit)
Fills tells taken left at (Err error.Memory) taken' left' at' = FillLoses tells taken left at taken' left' at'

-- What an open reader found in what was pending and in the bytes that it took. It is closed afterwards where it stops.
pub record Found (limit : ℕ) (at : WireAt) (bytes : List ℕ) (request : Request) (at' : WireAt) : Type 0 where
  pub rest : List ℕ
  pub gives : GivesRequest limit (at.pending ++ bytes) request rest
  pub is : at' ≡ record { read = at.read + length bytes; pending = rest; state = at.state }

pub record FoundEnd (tells : Bool) (left' : List ℕ) (at : WireAt) (bytes : List ℕ) (at' : WireAt) : Type 0 where
  pub none : at.pending ++ bytes ≡ []
  pub whole : IsTrue tells → left' ≡ []
  pub room : at.read + length bytes < input_limit
  pub read_is : at'.read ≡ at.read + length bytes

pub record FoundRefusal (limit : ℕ) (at : WireAt) (bytes : List ℕ) (status : ℕ) (at' : WireAt) : Type 0 where
  pub refused : IsRefused limit (at.pending ++ bytes) status
  pub read_is : at'.read ≡ at.read + length bytes

pub record FoundCut (tells : Bool) (left' : List ℕ) (limit : ℕ) (at : WireAt) (bytes : List ℕ) (at' : WireAt) : Type 0 where
  pub some : 0 < length (at.pending ++ bytes)
  pub unfinished : IsUnfinished limit (at.pending ++ bytes)
  pub whole : IsTrue tells → left' ≡ []
  pub room : at.read + length bytes < input_limit
  pub read_is : at'.read ≡ at.read + length bytes

pub record FoundNone (limit : ℕ) (at : WireAt) (bytes : List ℕ) (at' : WireAt) : Type 0 where
  pub unfinished : IsUnfinished limit (at.pending ++ bytes)
  pub read_is : at'.read ≡ at.read + length bytes

abbrev pub Finds : Bool → List ℕ → ℕ → WireAt → List ℕ → Result (Option Request) WireError → WireAt → Type 0
Finds tells left' limit at bytes (Ok (Some request)) at' = Found limit at bytes request at'
Finds tells left' limit at bytes (Ok None) at' = FoundEnd tells left' at bytes at'
Finds tells left' limit at bytes (Err (error.Refuse status)) at' = FoundRefusal limit at bytes status at'
Finds tells left' limit at bytes (Err error.Cut) at' = FoundCut tells left' limit at bytes at'
Finds tells left' limit at bytes (Err error.ReadFault) at' = FoundNone limit at bytes at' × (at.read + length bytes < input_limit)
Finds tells left' limit at bytes (Err error.TooMuch) at' = FoundNone limit at bytes at' × (at.read + length bytes ≡ input_limit)
Finds tells left' limit at bytes (Err error.Memory) at' = at'.read ≡ at.read + length bytes

pub record Asks (tells : Bool) (taken left taken' left' : List ℕ) (limit : ℕ) (at : WireAt) (result : Result (Option Request) WireError) (at' : WireAt) : Type 0 where
  pub bytes : List ℕ
  pub takes : Takes tells taken left bytes taken' left'
  pub asked : Asked limit at.pending bytes
  pub finds : Finds tells left' limit at bytes result at'
