-- The files that the entries of a map by names hold.
use Rattle.std.specs.Prelude.{ℕ, List, map, String, Vec, string_bytes}
use Rattle.std.specs.Global.{Global}
use Rattle.std.specs.FinMap as fin
use Rattle.object_store.specs.Files.{Files}

-- the entries with their names and contents as bytes
abbrev pub named : List (String Global × Vec ℕ Global) → List (List ℕ × List ℕ)
named entries = map (λ e. (string_bytes e.0, e.1.items)) entries

abbrev pub held : List (String Global × Vec ℕ Global) → Files
held entries = fin.from_entries (named entries)
