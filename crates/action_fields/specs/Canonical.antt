-- The canonical body of an action: its fields under their JSON names, in byte order of the names; an absent one is left out.
use Rattle.std.specs.Prelude.{ℕ, ℤ, Bool, true, List, [], ◌∷◌, codes, Option, Some, None, option_map, if◌then◌else◌}
use Rattle.serde_json.specs.Data.{Data, null, boolean, number, string, array, object, Items, no_items, item, Members, no_members, member}
use Rattle.serde_json.specs.Find.{of_integer}
use Rattle.serde_json.specs.Written.{compact_text}
use Rattle.action_types.specs.declared.actions.Action.{Action}
use Rattle.action_types.specs.declared.actions.Action.TheVariants as action
use Rattle.action_types.specs.declared.actions.Info.{Info}
use Rattle.action_types.specs.declared.actions.Protocol.{Protocol}
use Rattle.action_types.specs.declared.actions.Format.{Format}
use Rattle.action_types.specs.declared.actions.Meta.{Meta}
use Rattle.action_types.specs.declared.actions.Txn.{Txn}
use Rattle.action_types.specs.declared.actions.Domain.{Domain}
use Rattle.action_types.specs.declared.actions.Vector.{Vector}
use Rattle.action_types.specs.declared.actions.Remove.{Remove}
use Rattle.action_types.specs.declared.actions.Add.{Add}
use Rattle.action_fields.specs.declared.kind.Kind.{Kind}
use Rattle.action_fields.specs.declared.kind.Kind.TheVariants as kind
use Rattle.action_fields.specs.Kinds.{kind_name}
use Rattle.action_fields.specs.Types.{Pair}

-- ---- values

abbrev pub integer_data : ℤ → Data
integer_data z = number (of_integer z)

abbrev pub texts_items : List (List ℕ) → Items
texts_items [] = no_items
texts_items (s ∷ ss) = item (string s) (texts_items ss)

abbrev pub names_data : List (List ℕ) → Data
names_data ss = array (texts_items ss)

abbrev pub value_data : Option (List ℕ) → Data
value_data None = null
value_data (Some s) = string s

abbrev pub pairs_members : List Pair → Members
pairs_members [] = no_members
pairs_members (p ∷ ps) = member p.0 (value_data p.1) (pairs_members ps)

abbrev pub pairs_data : List Pair → Data
pairs_data ps = object (pairs_members ps)

-- ---- objects

-- a name and, unless it is absent, the value
abbrev pub Fields : Type 0
Fields = List (List ℕ × Option Data)

abbrev pub with_field : List ℕ → Option Data → Members → Members
with_field name None ms = ms
with_field name (Some d) ms = member name d ms

abbrev pub with_fields : Fields → Members
with_fields [] = no_members
with_fields (f ∷ fs) = with_field f.0 f.1 (with_fields fs)

abbrev pub format_fields : Format → Fields
format_fields f = (codes "options", Some (pairs_data f.options)) ∷ (codes "provider", Some (string f.provider)) ∷ []

abbrev pub format_data : Format → Data
format_data f = object (with_fields (format_fields f))

abbrev pub vector_fields : Vector → Fields
vector_fields v =
    (codes "cardinality", Some (integer_data v.cardinality))
    ∷ (codes "offset", option_map integer_data v.offset)
    ∷ (codes "pathOrInlineDv", Some (string v.locator))
    ∷ (codes "sizeInBytes", Some (integer_data v.size))
    ∷ (codes "storageType", Some (string v.storage)) ∷ []

abbrev pub vector_data : Vector → Data
vector_data v = object (with_fields (vector_fields v))

abbrev pub info_fields : Info → Fields
info_fields a = (codes "inCommitTimestamp", Some (integer_data a.time)) ∷ (codes "txnId", option_map string a.txn_id) ∷ []

abbrev pub protocol_fields : Protocol → Fields
protocol_fields a =
    (codes "minReaderVersion", Some (integer_data a.reader))
    ∷ (codes "minWriterVersion", Some (integer_data a.writer))
    ∷ (codes "readerFeatures", option_map names_data a.reader_features)
    ∷ (codes "writerFeatures", option_map names_data a.writer_features) ∷ []

abbrev pub meta_fields : Meta → Fields
meta_fields a =
    (codes "configuration", Some (pairs_data a.configuration))
    ∷ (codes "createdTime", option_map integer_data a.created)
    ∷ (codes "description", option_map string a.description)
    ∷ (codes "format", Some (format_data a.format))
    ∷ (codes "id", Some (string a.id))
    ∷ (codes "name", option_map string a.name)
    ∷ (codes "partitionColumns", Some (names_data a.columns))
    ∷ (codes "schemaString", Some (string a.schema)) ∷ []

abbrev pub txn_fields : Txn → Fields
txn_fields a =
    (codes "appId", Some (string a.app)) ∷ (codes "lastUpdated", option_map integer_data a.updated) ∷ (codes "version", Some (integer_data a.number)) ∷ []

abbrev pub domain_fields : Domain → Fields
domain_fields a = (codes "configuration", Some (string a.configuration)) ∷ (codes "domain", Some (string a.domain)) ∷ (codes "removed", Some (boolean a.removed)) ∷ []

-- a flag that is written where change holds
abbrev pub written : Bool → Bool → Option Bool
written change flag = if change then Some flag else None

abbrev pub remove_fields : Bool → Remove → Fields
remove_fields change a =
    (codes "dataChange", option_map boolean (written change a.change))
    ∷ (codes "deletionTimestamp", option_map integer_data a.deleted)
    ∷ (codes "deletionVector", option_map vector_data a.vector)
    ∷ (codes "extendedFileMetadata", option_map boolean a.extended)
    ∷ (codes "partitionValues", option_map pairs_data a.values)
    ∷ (codes "path", Some (string a.path))
    ∷ (codes "size", option_map integer_data a.size) ∷ []

abbrev pub add_fields : Bool → Add → Fields
add_fields change a =
    (codes "dataChange", option_map boolean (written change a.change))
    ∷ (codes "deletionVector", option_map vector_data a.vector)
    ∷ (codes "modificationTime", Some (integer_data a.modified))
    ∷ (codes "partitionValues", Some (pairs_data a.values))
    ∷ (codes "path", Some (string a.path))
    ∷ (codes "size", Some (integer_data a.size))
    ∷ (codes "stats", option_map string a.stats)
    ∷ (codes "tags", option_map pairs_data a.tags) ∷ []

abbrev pub kind_of : Action → Kind
kind_of (action.Info a) = kind.Info
kind_of (action.Protocol a) = kind.Protocol
kind_of (action.Meta a) = kind.Meta
kind_of (action.Txn a) = kind.Txn
kind_of (action.Domain a) = kind.Domain
kind_of (action.Remove a) = kind.Remove
kind_of (action.Add a) = kind.Add

abbrev pub action_fields : Bool → Action → Fields
action_fields change (action.Info a) = info_fields a
action_fields change (action.Protocol a) = protocol_fields a
action_fields change (action.Meta a) = meta_fields a
action_fields change (action.Txn a) = txn_fields a
action_fields change (action.Domain a) = domain_fields a
action_fields change (action.Remove a) = remove_fields change a
action_fields change (action.Add a) = add_fields change a

abbrev pub body_data : Bool → Action → Data
body_data change a = object (with_fields (action_fields change a))

-- the body's text; without change, dataChange is left out
unfoldable pub canonical_body : Bool → Action → List ℕ
canonical_body change a = compact_text (body_data change a)

-- an object with the one member of its kind
abbrev pub action_data : Action → Data
action_data a = object (member (kind_name (kind_of a)) (body_data true a) no_members)

-- the action's line, without its LF
unfoldable pub canonical_line : Action → List ℕ
canonical_line a = compact_text (action_data a)
