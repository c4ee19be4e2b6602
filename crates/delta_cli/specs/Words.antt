-- The words of the command line.
use Rattle.std.specs.Prelude.{◌≡◌, List, [], ◌∷◌, map, codes, string_bytes, String, Option, None, Some}
use Rattle.std.specs.declared.alloc.Global.{Global}
use Rattle.delta_cli.specs.declared.words.Command.{Command}
use Rattle.delta_cli.specs.declared.words.Command.TheVariants.{Run}

-- exactly the word `run`
abbrev pub IsRun : List (String Global) → Type 0
IsRun words = map string_bytes words ≡ codes "run" ∷ []

abbrev pub IsCommandOf : List (String Global) → Option Command → Type 0
IsCommandOf words None = ¬ (IsRun words)
IsCommandOf words (Some Run) = IsRun words
