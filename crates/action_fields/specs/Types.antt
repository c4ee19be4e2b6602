-- The types of fields: what a JSON value is read as, and None where it is of another type.
--     text          a string
--     integer       an integer of 64 bits, with a sign
--     from_zero     one that is not negative
--     flag          a boolean
--     path          a string that is not empty, as a path or the name of a domain
--     names         an array of strings
--     pairs nulls   an object whose values are strings or, where nulls holds, nulls
--     format        the encoding of the data files
use Rattle.std.specs.Prelude.{ℕ, ℤ, pos, int_lt, Bool, false, List, [], ◌∷◌, codes, Option, Some, None, is_some, option_map, option_and_then, if◌then◌else◌}
use Rattle.serde_json.specs.Data.{Data, Items, no_items, item, Members, no_members, member}
use Rattle.serde_json.specs.Find.{get, as_null, as_bool, as_number, as_str, as_array, as_object, as_i64}
use Rattle.action_types.specs.declared.actions.Format.{Format}

abbrev pub Pair : Type 0
Pair = List ℕ × Option (List ℕ)

-- a null counts as absent
abbrev pub unless_null : Option Data → Option Data
unless_null None = None
unless_null (Some d) = if is_some (as_null d) then None else Some d

-- the value of the field, where the body has one that is not null
abbrev pub given : List ℕ → Data → Option Data
given name body = unless_null (get name body)

abbrev pub text : Data → Option (List ℕ)
text = as_str

abbrev pub integer : Data → Option ℤ
integer d = option_and_then as_i64 (as_number d)

abbrev pub if_from_zero : ℤ → Option ℤ
if_from_zero z = if int_lt z (pos 0) then None else Some z

abbrev pub from_zero : Data → Option ℤ
from_zero d = option_and_then if_from_zero (integer d)

abbrev pub flag : Data → Option Bool
flag = as_bool

abbrev pub if_not_empty : List ℕ → Option (List ℕ)
if_not_empty [] = None
if_not_empty (b ∷ bs) = Some (b ∷ bs)

abbrev pub path : Data → Option (List ℕ)
path d = option_and_then if_not_empty (as_str d)

abbrev pub texts_in : Items → Option (List (List ℕ))
texts_in no_items = Some []
texts_in (item d ds) = option_and_then (λ s. option_map (λ rest. s ∷ rest) (texts_in ds)) (as_str d)

abbrev pub names : Data → Option (List (List ℕ))
names d = option_and_then texts_in (as_array d)

-- a text, or none for a null where there may be one
abbrev pub value_in : Bool → Data → Option (Option (List ℕ))
value_in nulls d = if is_some (as_null d) then (if nulls then Some None else None) else option_map Some (as_str d)

abbrev pub pairs_in : Bool → Members → Option (List Pair)
pairs_in nulls no_members = Some []
pairs_in nulls (member k d ms) = option_and_then (λ v. option_map (λ rest. (k, v) ∷ rest) (pairs_in nulls ms)) (value_in nulls d)

abbrev pub pairs : Bool → Data → Option (List Pair)
pairs nulls d = option_and_then (pairs_in nulls) (as_object d)

-- texts by name, and none where they are absent
abbrev pub options : Option Data → Option (List Pair)
options None = Some []
options (Some d) = pairs false d

abbrev pub format : Data → Option Format
format d = option_and_then (λ provider. option_map (λ found. record { provider = provider; options = found }) (options (given (codes "options") d))) (option_and_then text (given (codes "provider") d))
