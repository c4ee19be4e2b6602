-- What is found at the front of the bytes of a connection.
use Rattle.std.specs.Prelude.{ℕ, ◌≡◌, ◌+◌, ◌≤◌, ◌⊎◌, List, length, take, drop, Option, Some, None, Result, Ok, Err, IsUtf8, ⊤}
use Rattle.httparse.specs.Grammar.{RequestHead}
use Rattle.httparse.specs.Spans.{IsRequestAt, IsRequestWithin, IsWithin, span_bytes}
use Rattle.httparse.specs.declared.spans.HeaderSpan.{HeaderSpan}
use Rattle.httparse.specs.declared.spans.RequestSpans.{RequestSpans}
use Rattle.http_wire.specs.Requests.{head_limit, IsRequest, IsRefused, IsUnfinished, IsNoHead, IsLongHead, IsPartOfHead}
use Rattle.http_wire.specs.declared.request.Request.{Request}
use Rattle.http_wire.specs.declared.request.WireError.{WireError}
use Rattle.http_wire.specs.declared.request.WireError.TheVariants as error

-- the spans cover the parts of a head at the front
pub record IsHeadAt (bytes : List ℕ) (headers : List HeaderSpan) (spans : RequestSpans) : Type 0 where
  pub within : IsRequestWithin (take head_limit bytes) headers spans
  pub h : RequestHead
  pub at : IsRequestAt (take head_limit bytes) headers spans h

-- a head at the front, or less than a head, or no head within the limit
abbrev pub FindsHead : List ℕ → List HeaderSpan → Result (Option RequestSpans) ℕ → Type 0
FindsHead bytes headers (Ok (Some spans)) = IsHeadAt bytes headers spans
FindsHead bytes headers (Ok None) = IsPartOfHead bytes
FindsHead bytes headers (Err status) = IsNoHead bytes status ⊎ IsLongHead bytes status

-- the request is what the front of the bytes says, and rest follows
pub record GivesRequest (limit : ℕ) (bytes : List ℕ) (request : Request) (rest : List ℕ) : Type 0 where
  pub h : RequestHead
  pub method_is : request.method ≡ h.method
  pub target_is : request.target ≡ h.target
  pub is_request : IsRequest limit bytes h request.body.items rest

pub record TakesRequest (limit : ℕ) (bytes : List ℕ) (request : Request) (n : ℕ) : Type 0 where
  pub room : n ≤ length bytes
  pub gives : GivesRequest limit bytes request (drop n bytes)

-- a request at the front and its length, or less than a request, or the refusal
abbrev pub FindsRequest : ℕ → List ℕ → Result (Option (Request × ℕ)) WireError → Type 0
FindsRequest limit bytes (Ok (Some found)) = TakesRequest limit bytes found.0 found.1
FindsRequest limit bytes (Ok None) = IsUnfinished limit bytes
FindsRequest limit bytes (Err (error.Refuse status)) = IsRefused limit bytes status
FindsRequest limit bytes (Err error.Cut) = ⊥
FindsRequest limit bytes (Err error.ReadFault) = ⊥
FindsRequest limit bytes (Err error.TooMuch) = ⊥
FindsRequest limit bytes (Err error.Memory) = ⊤

-- the spans of the method and of the target lie in the head and are text
pub record AreTexts (front : List ℕ) (spans : RequestSpans) : Type 0 where
  pub len : spans.len ≤ length front
  pub method_fits : IsWithin spans.len spans.method
  pub path_fits : IsWithin spans.len spans.path
  pub method : IsUtf8 (span_bytes front spans.method)
  pub path : IsUtf8 (span_bytes front spans.path)

-- the parts of a request that spans and the size of its body give
pub record IsTaken (front bytes : List ℕ) (spans : RequestSpans) (size : ℕ) (found : Request × ℕ) : Type 0 where
  pub method : found.0.method ≡ span_bytes front spans.method
  pub target : found.0.target ≡ span_bytes front spans.path
  pub body : found.0.body.items ≡ take size (drop spans.len bytes)
  pub end : found.1 ≡ spans.len + size
