-- The whole input of a connection: requests one after another, and how it ends.
use Rattle.std.specs.Prelude.{ℕ, ◌≡◌, ◌<◌, ◌≤◌, List, [], ◌++◌, length, Ok, All}
use Rattle.std.specs.List.{flat_map}
use Rattle.httparse.specs.Grammar.{RequestHead, IsRequestHead, print_request}
use Rattle.http_wire.specs.Head.{size_of}
use Rattle.http_wire.specs.Requests.{head_limit, IsRefused, IsUnfinished}

-- a request as it was sent
pub record Sent : Type 0 where
  pub head : RequestHead
  pub body : List ℕ

abbrev pub sent_bytes : Sent → List ℕ
sent_bytes r = print_request r.head ++ r.body

-- the head is one of the grammar and within the limit, it is not refused, and the body has the size that it says
pub record IsServed (limit : ℕ) (r : Sent) : Type 0 where
  pub head : IsRequestHead r.head
  pub within : length (print_request r.head) ≤ head_limit
  pub size : size_of limit r.head ≡ Ok (length r.body)

-- how the input ends: between two requests, inside one, or with bytes that are refused
pub data InputEnd : Type 0 where
  between inside : InputEnd
  refused : ℕ → InputEnd

abbrev pub EndsBy : ℕ → List ℕ → InputEnd → Type 0
EndsBy limit rest between = rest ≡ []
EndsBy limit rest inside = (0 < length rest) × IsUnfinished limit rest
EndsBy limit rest (refused status) = IsRefused limit rest status

-- the bytes are these requests, one after another, and then the end
pub record Splits (limit : ℕ) (bytes : List ℕ) (requests : List Sent) (end : InputEnd) : Type 0 where
  pub rest : List ℕ
  pub whole : bytes ≡ flat_map sent_bytes requests ++ rest
  pub served : All (IsServed limit) requests
  pub ends : EndsBy limit rest end

-- What a caller knows in a loop over the requests: of these bytes these requests were handed, and the rest is pending.
pub record Heard (limit : ℕ) (bytes : List ℕ) (handed : List Sent) (pending : List ℕ) : Type 0 where
  pub whole : bytes ≡ flat_map sent_bytes handed ++ pending
  pub served : All (IsServed limit) handed
