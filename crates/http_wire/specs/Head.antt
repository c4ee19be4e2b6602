-- What the head of a request says of its body, and why a head is refused.
use Rattle.std.specs.Prelude.{ℕ, ◌==◌, nat_lt, nat_le, Bool, ◌&&◌, ◌||◌, List, [], ◌∷◌, map, length, codes, Option, Some, None, Result, Ok, Err, if◌then◌else◌}
use Rattle.std.specs.List.{list_all}
use Rattle.std.specs.Char.{is_ascii_digit, to_ascii_lowercase}
use Rattle.std.specs.Str.{bytes_eq}
use Rattle.std.specs.Str.Parse.{digits_value}
use Rattle.httparse.specs.Grammar.{RequestHead}
use Rattle.httparse.specs.Spans.{name_and_value}

-- a header: its name, and its value without the white space around it
abbrev pub Header : Type 0
Header = List ℕ × List ℕ

-- names are compared without regard to ASCII case
abbrev pub is_named : List ℕ → List ℕ → Bool
is_named a b = bytes_eq (map to_ascii_lowercase a) (map to_ascii_lowercase b)

-- the values of the headers of a name
unfoldable pub values_named : List ℕ → List Header → List (List ℕ)
values_named name [] = []
values_named name (h ∷ hs) = if is_named h.0 name then h.1 ∷ values_named name hs else values_named name hs

-- the number of 1 to 10 decimal digits
unfoldable pub decimal_value : List ℕ → Option ℕ
decimal_value v =
    if nat_le 1 (length v) && nat_le (length v) 10 && list_all is_ascii_digit v then Some (digits_value 10 v) else None

abbrev pub needs_length : List ℕ → Bool
needs_length method = bytes_eq method (codes "POST") || bytes_eq method (codes "PUT")

abbrev pub given_size : ℕ → Option ℕ → Result ℕ ℕ
given_size limit None = Err 400
given_size limit (Some n) = if nat_lt limit n then Err 413 else Ok n

-- the size of the body by the values of Content-Length
abbrev pub size_by : ℕ → List ℕ → List (List ℕ) → Result ℕ ℕ
size_by limit method [] = if needs_length method then Err 411 else Ok 0
size_by limit method (v ∷ []) = given_size limit (decimal_value v)
size_by limit method (v ∷ w ∷ vs) = Err 400

abbrev pub coded_size : ℕ → List ℕ → List Header → List (List ℕ) → Result ℕ ℕ
coded_size limit method headers [] = size_by limit method (values_named (codes "content-length") headers)
coded_size limit method headers (v ∷ vs) = Err 501

-- the size of the body of a request, or the status by which it is refused; there are no chunked bodies
abbrev pub body_size : ℕ → List ℕ → ℕ → List Header → Result ℕ ℕ
body_size limit method minor headers =
    if nat_lt 64 (length headers) then Err 431
    else (if minor == 0 then Err 505
    else coded_size limit method headers (values_named (codes "transfer-encoding") headers))

-- the same of a head
abbrev pub size_of : ℕ → RequestHead → Result ℕ ℕ
size_of limit h = body_size limit h.method h.minor (map name_and_value h.fields)
