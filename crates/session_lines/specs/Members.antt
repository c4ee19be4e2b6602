-- The members of a request, as JSON values.
--     schema       a text that does not speak of invariants
--     files        a list of bodies of `add` in which no file stands twice
use Rattle.std.specs.Prelude.{ℕ, ◌&&◌, ◌||◌, Bool, true, not, List, [], ◌∷◌, ◌++◌, codes, bytes_eq, Option, Some, None, is_some, option_map, option_and_then, Result, Ok, Err, unwrap_or, if◌then◌else◌}
use Rattle.std.specs.List.{list_any}
use Rattle.serde_json.specs.Data.{Data, Items, no_items, item, Members, no_members, member}
use Rattle.serde_json.specs.Find.{as_array, as_null}
use Rattle.action_types.specs.declared.actions.Action.{Action}
use Rattle.action_types.specs.declared.actions.Action.TheVariants as action
use Rattle.action_types.specs.declared.actions.Add.{Add}
use Rattle.action_fields.specs.declared.kind.Kind.TheVariants as kind
use Rattle.action_fields.specs.Bodies.{body_of, optional}
use Rattle.action_fields.specs.Gives.{◌>>=◌}
use Rattle.action_fields.specs.Types.{text}
use Rattle.staged_commit.specs.Adds.{have_own_files}
use Rattle.table_rules.specs.Texts.{contains_text}
use Rattle.session_lines.specs.declared.op.Op.{Op}
use Rattle.session_lines.specs.declared.op.Op.TheVariants as op

-- ---- which members there are

unfoldable pub op_named : List ℕ → Option Op
op_named name =
    if bytes_eq name (codes "create") then Some op.Create
    else (if bytes_eq name (codes "load") then Some op.Load
    else (if bytes_eq name (codes "write") then Some op.Write
    else None))

unfoldable pub has_member : Op → List ℕ → Bool
has_member op.Create name = bytes_eq name (codes "id") || bytes_eq name (codes "op") || bytes_eq name (codes "schema")
has_member op.Load name = bytes_eq name (codes "op")
has_member op.Write name = bytes_eq name (codes "adds") || bytes_eq name (codes "app") || bytes_eq name (codes "number") || bytes_eq name (codes "op")

-- a member that is not null and that such a request does not have
abbrev pub is_other : Op → List ℕ → Data → Bool
is_other o name d = not (has_member o name || is_some (as_null d))

-- the first such member; the members of a value that was read are in byte order of their names, so it is the least
abbrev pub other_member : Op → Members → Option (List ℕ)
other_member o no_members = None
other_member o (member k d ms) = if is_other o k d then Some k else other_member o ms

-- ---- what stands in them

abbrev pub unless_invariants : List ℕ → Option (List ℕ)
unless_invariants s = if contains_text (codes "delta.invariants") s then None else Some s

abbrev pub schema : Data → Option (List ℕ)
schema d = option_and_then unless_invariants (text d)

abbrev pub as_add : Result Action (List ℕ) → Option Add
as_add (Ok (action.Info a)) = None
as_add (Ok (action.Protocol a)) = None
as_add (Ok (action.Meta a)) = None
as_add (Ok (action.Txn a)) = None
as_add (Ok (action.Domain a)) = None
as_add (Ok (action.Remove a)) = None
as_add (Ok (action.Add a)) = Some a
as_add (Err f) = None

abbrev pub adds_in : Items → Option (List Add)
adds_in no_items = Some []
adds_in (item d ds) = option_and_then (λ a. option_map (λ rest. a ∷ rest) (adds_in ds)) (as_add (body_of kind.Add d))

abbrev pub if_own_files : List Add → Option (List Add)
if_own_files adds = if have_own_files adds then Some adds else None

abbrev pub files : Data → Option (List Add)
files d = option_and_then if_own_files (option_and_then adds_in (as_array d))

-- none where they are absent
unfoldable pub files_or_none : List ℕ → Data → Result (List Add) (List ℕ)
files_or_none f d = do
  found ← optional files f d
  Ok (unwrap_or found [])
