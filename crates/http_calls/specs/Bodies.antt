-- The bodies of POST: `{"commit":{"id":U,"time":T,"version":V}}` or `{"latestPublished":V}`, and nothing else.
use Rattle.std.specs.Prelude.{ℕ, ℤ, ◌+◌, ◌==◌, Bool, false, List, codes, Option, Some, None, option_and_then, if◌then◌else◌}
use Rattle.std.specs.Str.{is_utf8}
use Rattle.serde_json.specs.Data.{Data, Members, no_members, member}
use Rattle.serde_json.specs.Find.{as_number, as_object, as_str, as_u64, get}
use Rattle.serde_json.specs.Read.{read}
use Rattle.action_fields.specs.Types.{from_zero}
use Rattle.log_names.specs.Reading.{id_in}
use Rattle.http_calls.specs.declared.call.Call.{Call}
use Rattle.http_calls.specs.declared.call.Call.TheVariants as call

-- an object with so many members; their names are different
abbrev pub count_of : Members → ℕ
count_of no_members = 0
count_of (member k d ms) = count_of ms + 1

abbrev pub counts : ℕ → Option Members → Bool
counts n None = false
counts n (Some ms) = count_of ms == n

unfoldable pub has_members : ℕ → Data → Bool
has_members n d = counts n (as_object d)

-- the hyphenated lower-case UUID text of an id
abbrev pub id : Data → Option ℕ
id d = option_and_then id_in (as_str d)

-- an integer from 0 of 64 bits
abbrev pub count : Data → Option ℕ
count d = option_and_then as_u64 (as_number d)

-- the member of this name, where it is of this type
unfoldable pub the : {A : Type 0} → (Data → Option A) → List ℕ → Data → Option A
the type name d = option_and_then type (get name d)

abbrev pub ratify : Option ℕ → Option ℤ → Option ℕ → Option Call
ratify None t v = None
ratify (Some i) None v = None
ratify (Some i) (Some t) None = None
ratify (Some i) (Some t) (Some v) = Some (call.Ratify v i t)

unfoldable pub commit : Data → Option Call
commit d =
    if has_members 3 d
    then ratify (the id (codes "id") d) (the from_zero (codes "time") d) (the count (codes "version") d)
    else None

abbrev pub or_report : Option Call → Option ℕ → Option Call
or_report None None = None
or_report None (Some v) = Some (call.Report v)
or_report (Some c) v = Some c

-- the call that the value of a body asks for
unfoldable pub posted_value : Data → Option Call
posted_value d =
    if has_members 1 d then or_report (the commit (codes "commit") d) (the count (codes "latestPublished") d) else None

unfoldable pub posted : List ℕ → Option Call
posted body = if is_utf8 body then option_and_then posted_value (read body) else None
