-- What a body says: the action, or the least faulty field in byte order of the names. The fields of each kind stand in that order.
-- A missing or null required field is faulty, and so is a field of another type; other fields are passed over. The fields of a deletion
-- vector are read likewise, but a fault within it is one of the field that has the vector.
use Rattle.std.specs.Prelude.{ℕ, List, [], true, false, codes, Option, Some, None, is_some, option_map, option_and_then, unwrap_or, Result, Ok, Err, if◌then◌else◌}
use Rattle.std.specs.Result.{result_ok}
use Rattle.serde_json.specs.Data.{Data}
use Rattle.serde_json.specs.Find.{as_object}
use Rattle.action_types.specs.declared.actions.Action.{Action}
use Rattle.action_types.specs.declared.actions.Action.TheVariants as action
use Rattle.action_types.specs.declared.actions.Vector.{Vector}
use Rattle.action_fields.specs.declared.fault.BadBody.{BadBody}
use Rattle.action_fields.specs.declared.fault.BadBody.TheVariants as bad
use Rattle.action_fields.specs.declared.kind.Kind.{Kind}
use Rattle.action_fields.specs.declared.kind.Kind.TheVariants as kind
use Rattle.action_fields.specs.Gives.{◌>>=◌}
use Rattle.action_fields.specs.Types.{Pair, given, text, integer, from_zero, flag, path, names, pairs, format}

-- the faulty field that an error names
abbrev pub told : BadBody → Option (List ℕ)
told (bad.Field f) = Some f
told bad.Memory = None

abbrev pub or_fault : {A : Type 0} → List ℕ → Option A → Result A (List ℕ)
or_fault f None = Err f
or_fault f (Some a) = Ok a

unfoldable pub required : {A : Type 0} → (Data → Option A) → List ℕ → Data → Result A (List ℕ)
required type f body = or_fault f (option_and_then type (given f body))

abbrev pub if_given : {A : Type 0} → (Data → Option A) → List ℕ → Option Data → Result (Option A) (List ℕ)
if_given type f None = Ok None
if_given type f (Some d) = or_fault f (option_map Some (type d))

unfoldable pub optional : {A : Type 0} → (Data → Option A) → List ℕ → Data → Result (Option A) (List ℕ)
optional type f body = if_given type f (given f body)

-- pairs of texts, none where the field is absent
unfoldable pub or_empty : List ℕ → Data → Result (List Pair) (List ℕ)
or_empty f body = do
  found ← optional (pairs false) f body
  Ok (unwrap_or found [])

-- a deletion vector, or the least faulty field in it
unfoldable pub vector_of : Data → Result Vector (List ℕ)
vector_of d = do
  cardinality ← required from_zero (codes "cardinality") d
  offset ← optional from_zero (codes "offset") d
  locator ← required text (codes "pathOrInlineDv") d
  size ← required from_zero (codes "sizeInBytes") d
  storage ← required text (codes "storageType") d
  Ok (record { storage = storage; locator = locator; offset = offset; size = size; cardinality = cardinality })

-- an object with the fields of a deletion vector
abbrev pub vector : Data → Option Vector
vector d = result_ok (vector_of d)

unfoldable pub info : Data → Result Action (List ℕ)
info body = do
  time ← required from_zero (codes "inCommitTimestamp") body
  txn_id ← optional text (codes "txnId") body
  Ok (action.Info (record { time = time; txn_id = txn_id }))

unfoldable pub protocol : Data → Result Action (List ℕ)
protocol body = do
  reader ← required integer (codes "minReaderVersion") body
  writer ← required integer (codes "minWriterVersion") body
  reader_features ← optional names (codes "readerFeatures") body
  writer_features ← optional names (codes "writerFeatures") body
  Ok (action.Protocol (record { reader = reader; writer = writer; reader_features = reader_features; writer_features = writer_features }))

unfoldable pub meta : Data → Result Action (List ℕ)
meta body = do
  configuration ← or_empty (codes "configuration") body
  created ← optional integer (codes "createdTime") body
  description ← optional text (codes "description") body
  found ← required format (codes "format") body
  id ← required text (codes "id") body
  name ← optional text (codes "name") body
  columns ← required names (codes "partitionColumns") body
  schema ← required text (codes "schemaString") body
  Ok (action.Meta (record { configuration = configuration; created = created; description = description; format = found; id = id; name = name; columns = columns; schema = schema }))

unfoldable pub txn : Data → Result Action (List ℕ)
txn body = do
  app ← required text (codes "appId") body
  updated ← optional integer (codes "lastUpdated") body
  version ← required integer (codes "version") body
  Ok (action.Txn (record { app = app; updated = updated; number = version }))

unfoldable pub domain : Data → Result Action (List ℕ)
domain body = do
  configuration ← required text (codes "configuration") body
  name ← required path (codes "domain") body
  removed ← required flag (codes "removed") body
  Ok (action.Domain (record { configuration = configuration; domain = name; removed = removed }))

unfoldable pub remove : Data → Result Action (List ℕ)
remove body = do
  change ← required flag (codes "dataChange") body
  deleted ← optional integer (codes "deletionTimestamp") body
  found ← optional vector (codes "deletionVector") body
  extended ← optional flag (codes "extendedFileMetadata") body
  values ← optional (pairs true) (codes "partitionValues") body
  file ← required path (codes "path") body
  size ← optional from_zero (codes "size") body
  Ok (action.Remove (record { change = change; deleted = deleted; extended = extended; values = values; path = file; size = size; vector = found }))

unfoldable pub add : Data → Result Action (List ℕ)
add body = do
  change ← required flag (codes "dataChange") body
  found ← optional vector (codes "deletionVector") body
  modified ← required integer (codes "modificationTime") body
  values ← required (pairs true) (codes "partitionValues") body
  file ← required path (codes "path") body
  size ← required from_zero (codes "size") body
  stats ← optional text (codes "stats") body
  tags ← optional (pairs true) (codes "tags") body
  Ok (action.Add (record { change = change; modified = modified; values = values; path = file; size = size; stats = stats; tags = tags; vector = found }))

abbrev pub fields_of : Kind → Data → Result Action (List ℕ)
fields_of kind.Info body = info body
fields_of kind.Protocol body = protocol body
fields_of kind.Meta body = meta body
fields_of kind.Txn body = txn body
fields_of kind.Domain body = domain body
fields_of kind.Remove body = remove body
fields_of kind.Add body = add body
fields_of kind.CheckpointMetadata body = Err []
fields_of kind.Sidecar body = Err []

-- a body that is no object is the fault with the empty name
unfoldable pub body_of : Kind → Data → Result Action (List ℕ)
body_of k body = if is_some (as_object body) then fields_of k body else Err []
