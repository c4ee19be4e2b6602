-- The requests of a connection. The bytes are cut into requests by themselves alone, in whatever pieces they come.
use Rattle.std.specs.Prelude.{ℕ, ◌≡◌, ◌<◌, ◌≤◌, ◌⊎◌, List, ◌++◌, length, take, Ok, Err}
use Rattle.httparse.specs.Grammar.{RequestHead, ReadsRequest, print_request, HasNoRequest, NeverHasRequest, MayBecomeRequest}
use Rattle.http_wire.specs.Head.{size_of}

-- the most bytes of a head
abbrev pub head_limit : ℕ
head_limit = 16384

-- the bytes begin with the head h, which is within the limit, and rest follows
pub record HasHead (bytes : List ℕ) (h : RequestHead) (rest : List ℕ) : Type 0 where
  pub reads : ReadsRequest bytes h rest
  pub within : length (print_request h) ≤ head_limit

-- the bytes begin with a request: its head h, and a body of as many bytes as the head says
pub record IsRequest (limit : ℕ) (bytes : List ℕ) (h : RequestHead) (body rest : List ℕ) : Type 0 where
  pub head : HasHead bytes h (body ++ rest)
  pub size : size_of limit h ≡ Ok (length body)

-- a whole head that is refused
pub record RefusesHead (limit : ℕ) (bytes : List ℕ) (status : ℕ) : Type 0 where
  pub h : RequestHead
  pub rest : List ℕ
  pub head : HasHead bytes h rest
  pub refusal : size_of limit h ≡ Err status

-- no bytes can follow that make these a head, as far as a head may go
pub record IsNoHead (bytes : List ℕ) (status : ℕ) : Type 0 where
  pub never : NeverHasRequest (take head_limit bytes)
  pub status_is : status ≡ 400

-- the head does not end within the limit
pub record IsLongHead (bytes : List ℕ) (status : ℕ) : Type 0 where
  pub long : head_limit ≤ length bytes
  pub no_head : HasNoRequest (take head_limit bytes)
  pub may_become : MayBecomeRequest (take head_limit bytes)
  pub status_is : status ≡ 431

-- The bytes are refused by this status. A head that ends inside its target may be both no head and too long.
abbrev pub IsRefused : ℕ → List ℕ → ℕ → Type 0
IsRefused limit bytes status = RefusesHead limit bytes status ⊎ (IsNoHead bytes status ⊎ IsLongHead bytes status)

-- the bytes are less than a head
pub record IsPartOfHead (bytes : List ℕ) : Type 0 where
  pub short : length bytes < head_limit
  pub no_head : HasNoRequest bytes
  pub may_become : MayBecomeRequest bytes

-- the bytes are a head and less than its body
pub record LacksBody (limit : ℕ) (bytes : List ℕ) : Type 0 where
  pub h : RequestHead
  pub rest : List ℕ
  pub size : ℕ
  pub head : HasHead bytes h rest
  pub size_is : size_of limit h ≡ Ok size
  pub lacking : length rest < size

-- the bytes are less than a request, and not refused
abbrev pub IsUnfinished : ℕ → List ℕ → Type 0
IsUnfinished limit bytes = IsPartOfHead bytes ⊎ LacksBody limit bytes
