-- The targets of the calls: `/tables/ID/commits` and `/tables/ID/log/NAME`, without a query.
use Rattle.std.specs.Prelude.{ℕ, ◌+◌, ◌==◌, ◌&&◌, Bool, not, nat_le, List, [], ◌∷◌, length, take, drop, codes, bytes_eq, Option, Some, None, option_map, option_and_then, if◌then◌else◌}
use Rattle.std.specs.List.{list_any}
use Rattle.std.specs.Str.{is_utf8}
use Rattle.log_names.specs.Reading.{name_of}
use Rattle.log_names.specs.declared.LogName.{LogName}
use Rattle.log_names.specs.declared.LogName.TheVariants as name
use Rattle.http_calls.specs.declared.target.Place.{Place}
use Rattle.http_calls.specs.declared.target.Place.TheVariants as place
use Rattle.http_calls.specs.declared.target.Asked.{Asked}
use Rattle.http_calls.specs.declared.target.Asked.TheVariants as asked

-- the segment of the table as it is written, and what of the table is meant
pub record Target : Type 0 where
  pub id : List ℕ
  pub place : Place

-- what follows the front, where the bytes begin with it
unfoldable pub after : List ℕ → List ℕ → Option (List ℕ)
after front bs =
    if nat_le (length front) (length bs) && bytes_eq (take (length front) bs) front then Some (drop (length front) bs) else None

-- the number of bytes before the first slash
unfoldable pub to_slash : List ℕ → ℕ
to_slash [] = 0
to_slash (b ∷ bs) = if b == 47 then 0 else to_slash bs + 1

-- a segment of a path is not empty and begins no query
abbrev pub is_question : ℕ → Bool
is_question b = b == 63

unfoldable pub is_segment : List ℕ → Bool
is_segment id = not (length id == 0) && not (list_any is_question id)

-- the file of the log with this name, which is written without escapes
abbrev pub named_file : LogName → Option Place
named_file (name.Published version) = Some (place.File (name.Published version))
named_file (name.Staged version id) = Some (place.File (name.Staged version id))
named_file (name.Checkpoint version id) = Some (place.File (name.Checkpoint version id))
named_file (name.Parquet version) = None
named_file name.Other = None

unfoldable pub file_of : List ℕ → Option Place
file_of text = if is_utf8 text then named_file (name_of text) else None

-- what follows the segment of the table
unfoldable pub place_of : List ℕ → Option Place
place_of rest = if bytes_eq rest (codes "/commits") then Some place.Commits else option_and_then file_of (after (codes "/log/") rest)

unfoldable pub segment_target : List ℕ → List ℕ → Option Target
segment_target id rest = if is_segment id then option_map (λ p. record { id = id; place = p }) (place_of rest) else None

abbrev pub table_target : List ℕ → Option Target
table_target path = segment_target (take (to_slash path) path) (drop (to_slash path) path)

unfoldable pub target_of : List ℕ → Option Target
target_of target = option_and_then table_target (after (codes "/tables/") target)

-- what a method asks for; a file of the log is read with GET, and a commit is put with PUT
abbrev pub put_of : LogName → Option Asked
put_of (name.Published version) = Some (asked.Publish version)
put_of (name.Staged version id) = Some (asked.Stage version id)
put_of (name.Checkpoint version id) = None
put_of (name.Parquet version) = None
put_of name.Other = None

unfoldable pub asked_by : Place → List ℕ → Option Asked
asked_by place.Commits method =
    if bytes_eq method (codes "GET") then Some asked.Commits
    else (if bytes_eq method (codes "POST") then Some asked.Post else None)
asked_by (place.File n) method =
    if bytes_eq method (codes "GET") then Some (asked.Get n)
    else (if bytes_eq method (codes "PUT") then put_of n else None)
