-- The text of Loaded in parts, for private clauses.
use Rattle.std.specs.Prelude.{ℕ, List, [], ◌∷◌, ◌++◌, Option, Some, None}
use Rattle.json.specs.Print.{quoted}
use Rattle.serde_json.specs.Data.{Data}
use Rattle.serde_json.specs.Written.{compact_text}
use Rattle.action_fields.specs.Canonical.{Fields}

-- a name and its colon, with the comma before it
unfoldable pub name_text : List ℕ → List ℕ
name_text name = 44 ∷ (quoted name ++ 58 ∷ [])

-- a member with the comma before it, or nothing where its value is absent
unfoldable pub member_text : List ℕ → Option Data → List ℕ
member_text name None = []
member_text name (Some d) = name_text name ++ compact_text d

abbrev pub later_members : Fields → List ℕ
later_members [] = []
later_members (f ∷ fs) = member_text f.0 f.1 ++ later_members fs

-- a member with the comma behind it, or nothing where its value is absent
unfoldable pub early_text : List ℕ → Option Data → List ℕ
early_text name None = []
early_text name (Some d) = quoted name ++ 58 ∷ (compact_text d ++ 44 ∷ [])

-- the opening brace, a member that may be absent, and the first member that is always there
unfoldable pub first_members : List ℕ → Option Data → List ℕ → Data → List ℕ
first_members early o name d = 123 ∷ (early_text early o ++ (quoted name ++ 58 ∷ compact_text d))
