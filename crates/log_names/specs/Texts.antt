-- The texts of the names of a table's log, relative to the log folder.
use Rattle.std.specs.Prelude.{ℕ, zero, suc, ◌+◌, ◌/◌, ◌%◌, ◌≡◌, ◌<◌, ◌^◌, ◌⊎◌, List, [], ◌∷◌, ◌++◌, Option, Some, None, codes}
use Rattle.std.specs.Int.{to_be_bytes, w128}
use Rattle.uuid.specs.Text.{hyphenated_text, lower}
use Rattle.log_names.specs.declared.LogName.{LogName}
use Rattle.log_names.specs.declared.LogName.TheVariants.{Published, Staged, Checkpoint, Parquet, Other}

-- the last decimal digits of a number, so many, with leading zeros
unfoldable pub digits : ℕ → ℕ → List ℕ
digits zero n = []
digits (suc width) n = digits width (n / 10) ++ (48 + n % 10) ∷ []

-- a version: 20 decimal digits
unfoldable pub version_text : ℕ → List ℕ
version_text version = digits 20 version

-- an id: the hyphenated lower-case UUID text of its 128 bits
unfoldable pub uuid_text : ℕ → List ℕ
uuid_text id = hyphenated_text lower (to_be_bytes w128 id)

-- the published commit of a version
unfoldable pub published_text : ℕ → List ℕ
published_text version = version_text version ++ codes ".json"

-- the staged commit of a version under an id
unfoldable pub staged_text : ℕ → ℕ → List ℕ
staged_text version id =
    codes "_staged_commits/" ++ (version_text version ++ (codes "." ++ (uuid_text id ++ codes ".json")))

-- the checkpoint of a version under an id, written as JSON
unfoldable pub checkpoint_text : ℕ → ℕ → List ℕ
checkpoint_text version id =
    version_text version ++ (codes ".checkpoint." ++ (uuid_text id ++ codes ".json"))

-- the Parquet checkpoints of a version: whole, under an id, and one part of several
unfoldable pub whole_parquet_text : ℕ → List ℕ
whole_parquet_text version = version_text version ++ codes ".checkpoint.parquet"

unfoldable pub parquet_text : ℕ → ℕ → List ℕ
parquet_text version id =
    version_text version ++ (codes ".checkpoint." ++ (uuid_text id ++ codes ".parquet"))

unfoldable pub part_parquet_text : ℕ → ℕ → ℕ → List ℕ
part_parquet_text version part parts =
    version_text version ++ (codes ".checkpoint." ++ (digits 10 part ++ (codes "." ++ (digits 10 parts ++ codes ".parquet"))))

-- the text of a name, which a name of a Parquet checkpoint and a name of another kind lack
abbrev pub name_text : LogName → Option (List ℕ)
name_text (Published version) = Some (published_text version)
name_text (Staged version id) = Some (staged_text version id)
name_text (Checkpoint version id) = Some (checkpoint_text version id)
name_text (Parquet version) = None
name_text Other = None

-- one of the texts of a Parquet checkpoint of this version
abbrev pub IsParquetText : List ℕ → ℕ → Type 0
IsParquetText bs version =
    (bs ≡ whole_parquet_text version)
    ⊎ (((id : ℕ) × (id < 2 ^ 128) × (bs ≡ parquet_text version id))
    ⊎ ((part : ℕ) × (parts : ℕ) × (part < 10 ^ 10) × (parts < 10 ^ 10) × (bs ≡ part_parquet_text version part parts)))

-- the text has the form of this name: versions have 64 bits, ids have 128
abbrev pub HasForm : List ℕ → LogName → Type 0
HasForm bs (Published version) = (version < 2 ^ 64) × (bs ≡ published_text version)
HasForm bs (Staged version id) = (version < 2 ^ 64) × (id < 2 ^ 128) × (bs ≡ staged_text version id)
HasForm bs (Checkpoint version id) = (version < 2 ^ 64) × (id < 2 ^ 128) × (bs ≡ checkpoint_text version id)
HasForm bs (Parquet version) = (version < 2 ^ 64) × IsParquetText bs version
HasForm bs Other = ⊥

-- the name of a text: the one whose form it has, and `Other` where it has none
abbrev pub IsNameOf : List ℕ → LogName → Type 0
IsNameOf bs n = HasForm bs n ⊎ ((n ≡ Other) × ((m : LogName) → ¬ (HasForm bs m)))

-- the numbers of a name fit their types
abbrev pub InRange : LogName → Type 0
InRange (Published version) = version < 2 ^ 64
InRange (Staged version id) = (version < 2 ^ 64) × (id < 2 ^ 128)
InRange (Checkpoint version id) = (version < 2 ^ 64) × (id < 2 ^ 128)
InRange (Parquet version) = version < 2 ^ 64
InRange Other = Unit {0}
