-- The name that a text is read as.
use Rattle.std.specs.Prelude.{ℕ, ◌+◌, ◌-◌, ◌*◌, ◌^◌, ◌==◌, ◌&&◌, nat_lt, List, Bool, Option, Some, None, if◌then◌else◌, length, take, drop, fold, codes, option_and_then}
use Rattle.std.specs.List.{list_all}
use Rattle.std.specs.Int.{from_be_bytes, w128}
use Rattle.std.specs.Char.{is_ascii_digit}
use Rattle.std.specs.Str.{bytes_eq}
use Rattle.uuid.specs.Text.{parsed}
use Rattle.log_names.specs.Texts.{uuid_text}
use Rattle.log_names.specs.declared.LogName.{LogName}
use Rattle.log_names.specs.declared.LogName.TheVariants.{Published, Staged, Checkpoint, Parquet, Other}

-- the number that decimal digits write
abbrev pub decimal_value : List ℕ → ℕ
decimal_value bs = fold (λ n b. n * 10 + (b - 48)) 0 bs

-- the number of so many decimal digits, where it is below a limit
unfoldable pub number_in : ℕ → ℕ → List ℕ → Option ℕ
number_in width limit bs =
    if (length bs == width) && list_all is_ascii_digit bs && nat_lt (decimal_value bs) limit then Some (decimal_value bs) else None

-- the version that 20 digits write, where it fits in 64 bits
unfoldable pub version_in : List ℕ → Option ℕ
version_in bs = number_in 20 (2 ^ 64) bs

-- the id, where the text is the one of its UUID
abbrev pub same_id : List ℕ → ℕ → Option ℕ
same_id bs id = if nat_lt id (2 ^ 128) && bytes_eq (uuid_text id) bs then Some id else None

unfoldable pub id_in : List ℕ → Option ℕ
id_in bs = option_and_then (λ bytes. same_id bs (from_be_bytes w128 bytes)) (parsed bs)

-- a name of what was read, if all was
abbrev pub with_version : (ℕ → LogName) → Option ℕ → LogName
with_version name None = Other
with_version name (Some version) = name version

abbrev pub with_id : (ℕ → ℕ → LogName) → Option ℕ → Option ℕ → LogName
with_id name None _ = Other
with_id name (Some version) None = Other
with_id name (Some version) (Some id) = name version id

-- whether a part stands in a text from an index on
abbrev pub stands_at : ℕ → List ℕ → List ℕ → Bool
stands_at from part bs = bytes_eq (take (length part) (drop from bs)) part

-- the ten digits of a part's number from an index on
abbrev pub is_part_at : ℕ → List ℕ → Bool
is_part_at from bs = list_all is_ascii_digit (take 10 (drop from bs))

-- a text of each form, where the text has the form's length
unfoldable pub published_in : List ℕ → LogName
published_in bs =
    if stands_at 20 (codes ".json") bs then with_version Published (version_in (take 20 bs)) else Other

unfoldable pub staged_in : List ℕ → LogName
staged_in bs =
    if stands_at 0 (codes "_staged_commits/") bs && stands_at 36 (codes ".") bs && stands_at 73 (codes ".json") bs
    then with_id Staged (version_in (take 20 (drop 16 bs))) (id_in (take 36 (drop 37 bs)))
    else Other

unfoldable pub checkpoint_in : List ℕ → LogName
checkpoint_in bs =
    if stands_at 20 (codes ".checkpoint.") bs && stands_at 68 (codes ".json") bs
    then with_id Checkpoint (version_in (take 20 bs)) (id_in (take 36 (drop 32 bs)))
    else Other

unfoldable pub whole_parquet_in : List ℕ → LogName
whole_parquet_in bs =
    if stands_at 20 (codes ".checkpoint.parquet") bs then with_version Parquet (version_in (take 20 bs)) else Other

unfoldable pub parquet_in : List ℕ → LogName
parquet_in bs =
    if stands_at 20 (codes ".checkpoint.") bs && stands_at 68 (codes ".parquet") bs
    then with_id (λ version _. Parquet version) (version_in (take 20 bs)) (id_in (take 36 (drop 32 bs)))
    else Other

unfoldable pub part_parquet_in : List ℕ → LogName
part_parquet_in bs =
    if stands_at 20 (codes ".checkpoint.") bs && stands_at 42 (codes ".") bs && stands_at 53 (codes ".parquet") bs
    && is_part_at 32 bs && is_part_at 43 bs
    then with_version Parquet (version_in (take 20 bs))
    else Other

-- the name of a text: each form has a length of its own
unfoldable pub name_of : List ℕ → LogName
name_of bs =
    if length bs == 25 then published_in bs
    else if length bs == 78 then staged_in bs
    else if length bs == 73 then checkpoint_in bs
    else if length bs == 39 then whole_parquet_in bs
    else if length bs == 76 then parquet_in bs
    else if length bs == 61 then part_parquet_in bs
    else Other
