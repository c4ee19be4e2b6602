-- Tests on texts, on lists of names and on pairs.
use Rattle.std.specs.Prelude.{ℕ, List, [], ◌∷◌, ◌&&◌, ◌||◌, Bool, false, Option, Some, None, length, take}
use Rattle.std.specs.List.{list_all, list_any}
use Rattle.std.specs.Str.{bytes_eq}

-- a name stands in a list
abbrev pub names_have : List (List ℕ) → List ℕ → Bool
names_have names name = list_any (λ other. bytes_eq other name) names

-- an optional list, where an absent one is empty
abbrev pub listed : Option (List (List ℕ)) → List (List ℕ)
listed None = []
listed (Some names) = names

-- a pair has this name
abbrev pub pairs_name : List (List ℕ × Option (List ℕ)) → List ℕ → Bool
pairs_name pairs name = list_any (λ pair. bytes_eq pair.0 name) pairs

-- the names of the pairs are exactly those of a list
abbrev pub pairs_are_of : List (List ℕ × Option (List ℕ)) → List (List ℕ) → Bool
pairs_are_of pairs names = list_all (λ pair. names_have names pair.0) pairs && list_all (pairs_name pairs) names

-- an optional text is there, and is this one
abbrev pub is_text : List ℕ → Option (List ℕ) → Bool
is_text text None = false
is_text text (Some other) = bytes_eq other text

-- a property has a value
abbrev pub pairs_have : List (List ℕ × Option (List ℕ)) → List ℕ → List ℕ → Bool
pairs_have pairs name value = list_any (λ pair. bytes_eq pair.0 name && is_text value pair.1) pairs

-- a part stands somewhere in a text
abbrev pub contains_text : List ℕ → List ℕ → Bool
contains_text part [] = bytes_eq (take (length part) []) part
contains_text part (b ∷ bs) = bytes_eq (take (length part) (b ∷ bs)) part || contains_text part bs
