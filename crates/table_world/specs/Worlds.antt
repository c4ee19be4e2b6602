-- The catalogue and the store of a world, as its plain data.
use Rattle.std.specs.Prelude.{◌≡◌, ◌<◌, ◌-◌, ℕ, Bool, List, [], length, find, Option}
use Rattle.commit_catalog.specs.Records.{CatalogData}
use Rattle.commit_catalog.specs.declared.Limits.{Limits}
use Rattle.commit_catalog.specs.declared.Entry.{Entry}
use Rattle.log_names.specs.Reading.{name_of}
use Rattle.object_store.specs.Files.{Files}
use Rattle.table_model.specs.World.{WorldData, entry_at}
use Rattle.table_model.specs.Turns.{is_log_name}

-- `first` is the store's count of faults when it was handed in
abbrev pub world_of : CatalogData → Files → ℕ → ℕ → Bool → WorldData
world_of c files faults first tells =
    record { records = c.records; reported = c.reported; limits = c.limits; files = files; first = first; tally = faults - first; tells = tells }

-- the version has this id in the catalogue
abbrev pub IsRecordedUnder : List Entry → ℕ → ℕ → Type 0
IsRecordedUnder records version id = (version < length records) × ((entry_at records version).id ≡ id)

-- a world without commits, in which no fault was met
abbrev pub fresh_world : Limits → Files → ℕ → Bool → WorldData
fresh_world limits files first tells = record { records = []; reported = 0; limits = limits; files = files; first = first; tally = 0; tells = tells }

-- the least name in byte order that is a name of the log
abbrev pub first_log_name : List (List ℕ) → Option (List ℕ)
first_log_name texts = find (λ text. is_log_name (name_of text)) texts
