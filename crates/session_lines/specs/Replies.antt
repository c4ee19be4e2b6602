-- The text of a reply: an object with its members in byte order of their names, ended by LF.
use Rattle.std.specs.Prelude.{ℕ, ℤ, Bool, true, false, List, [], ◌∷◌, ◌++◌, map, codes, Option, Some, None, option_map, unwrap_or, if◌then◌else◌, ⊤}
use Rattle.serde_json.specs.Data.{Data, null, number, unsigned, string, array, object, Items, no_items, item}
use Rattle.serde_json.specs.Written.{compact_text}
use Rattle.action_types.specs.declared.actions.Action.{Action}
use Rattle.action_types.specs.declared.actions.Action.TheVariants as action
use Rattle.action_types.specs.declared.actions.Domain.{Domain}
use Rattle.action_fields.specs.Canonical.{Fields, with_fields, integer_data, body_data}
use Rattle.conflict_rules.specs.declared.clash.Rule.{Rule}
use Rattle.conflict_rules.specs.declared.clash.Rule.TheVariants as clash
use Rattle.log_names.specs.Texts.{name_text, uuid_text}
use Rattle.reconcile.specs.declared.state.State.{State}
use Rattle.reconcile.specs.Standing.{files_in, tombstones_in, domains_in, txns_in, protocol_in, meta_in}
use Rattle.table_model.specs.declared.answers.Spot.{Spot}
use Rattle.table_model.specs.declared.answers.Spot.TheVariants as spot
use Rattle.table_rules.specs.declared.broken.Broken.{Broken}
use Rattle.table_rules.specs.declared.broken.Broken.TheVariants as broken
use Rattle.session_lines.specs.declared.fault.LineWhy.{LineWhy}
use Rattle.session_lines.specs.declared.fault.LineWhy.TheVariants as why
use Rattle.session_lines.specs.declared.reply.Reply.{Reply}
use Rattle.session_lines.specs.declared.reply.Reply.TheVariants as reply

-- ---- names and keys of rules

abbrev pub broken_name : Broken → List ℕ
broken_name broken.NoInfo = codes "noInfo"
broken_name broken.NoMeta = codes "noMeta"
broken_name (broken.TimeNotAfter last) = codes "timeNotAfter"
broken_name (broken.Feature name) = codes "feature"
broken_name (broken.Property name) = codes "property"
broken_name broken.Invariants = codes "invariants"
broken_name broken.Columns = codes "columns"
broken_name (broken.TxnNotAfter app recorded) = codes "txnNotAfter"
broken_name (broken.NotLive path vector) = codes "notLive"
broken_name (broken.AppendOnly path vector) = codes "appendOnly"
broken_name (broken.Partition path vector) = codes "partition"
broken_name (broken.Vector path vector) = codes "vector"
broken_name (broken.Domain domain) = codes "domain"
broken_name broken.Memory = codes "memory"

-- the name, path, application or domain that the rule names, else the empty text
abbrev pub broken_key : Broken → List ℕ
broken_key broken.NoInfo = []
broken_key broken.NoMeta = []
broken_key (broken.TimeNotAfter last) = []
broken_key (broken.Feature name) = name
broken_key (broken.Property name) = name
broken_key broken.Invariants = []
broken_key broken.Columns = []
broken_key (broken.TxnNotAfter app recorded) = app
broken_key (broken.NotLive path vector) = path
broken_key (broken.AppendOnly path vector) = path
broken_key (broken.Partition path vector) = path
broken_key (broken.Vector path vector) = path
broken_key (broken.Domain domain) = domain
broken_key broken.Memory = []

-- the unique id of the vector, where the rule names a file with one
abbrev pub broken_vector : Broken → Option (List ℕ)
broken_vector broken.NoInfo = None
broken_vector broken.NoMeta = None
broken_vector (broken.TimeNotAfter last) = None
broken_vector (broken.Feature name) = None
broken_vector (broken.Property name) = None
broken_vector broken.Invariants = None
broken_vector broken.Columns = None
broken_vector (broken.TxnNotAfter app recorded) = None
broken_vector (broken.NotLive path vector) = vector
broken_vector (broken.AppendOnly path vector) = vector
broken_vector (broken.Partition path vector) = vector
broken_vector (broken.Vector path vector) = vector
broken_vector (broken.Domain domain) = None
broken_vector broken.Memory = None

abbrev pub rule_name : Rule → List ℕ
rule_name clash.Protocol = codes "protocol"
rule_name clash.Metadata = codes "metadata"
rule_name clash.Transaction = codes "transaction"
rule_name clash.DeleteDelete = codes "deleteDelete"
rule_name clash.DeleteRead = codes "deleteRead"
rule_name clash.Append = codes "append"
rule_name clash.Domain = codes "domain"

-- the file's name, or the empty text for the folder
abbrev pub spot_name : Spot → List ℕ
spot_name spot.Folder = []
spot_name (spot.File n) = unwrap_or (name_text n) []

-- ---- values

abbrev pub count_data : ℕ → Data
count_data n = number (unsigned n)

abbrev pub base_data : Option ℕ → Data
base_data None = null
base_data (Some v) = count_data v

abbrev pub bodies_items : Bool → List Action → Items
bodies_items change [] = no_items
bodies_items change (a ∷ more) = item (body_data change a) (bodies_items change more)

-- the bodies of actions, each with dataChange or without it
abbrev pub bodies_data : Bool → List Action → Data
bodies_data change actions = array (bodies_items change actions)

abbrev pub said : List ℕ → Option Data
said name = Some (string name)

-- ---- replies

-- the bodies of the domains in byte order of their names
abbrev pub all_domains_data : State → Data
all_domains_data s = bodies_data true (map action.Domain (domains_in s))

-- the same, where there are some
abbrev pub are_some : List Domain → Bool
are_some [] = false
are_some (d ∷ ds) = true

abbrev pub domains_data : State → Option Data
domains_data s = if are_some (domains_in s) then Some (all_domains_data s) else None

-- the bodies of the live files and of the tombstones in the order of files, without dataChange, and of the latest txns in byte order
-- of their applications
abbrev pub files_data : State → Data
files_data s = bodies_data false (map action.Add (files_in s))

abbrev pub gone_data : State → Data
gone_data s = bodies_data false (map action.Remove (tombstones_in s))

abbrev pub txns_data : State → Data
txns_data s = bodies_data true (map action.Txn (txns_in s))

-- the bodies of the metadata and of the protocol
abbrev pub meta_data : State → Option Data
meta_data s = option_map (λ m. body_data true (action.Meta m)) (meta_in s)

abbrev pub protocol_data : State → Option Data
protocol_data s = option_map (λ p. body_data true (action.Protocol p)) (protocol_in s)

abbrev pub table_fields : ℕ → State → Fields
table_fields latest s = (codes "latest", Some (count_data latest)) ∷ (codes "metaData", meta_data s) ∷ (codes "protocol", protocol_data s) ∷ []

abbrev pub end_fields : State → ℤ → ℕ → Fields
end_fields s time version =
    (codes "removed", Some (gone_data s))
    ∷ (codes "reply", said (codes "loaded"))
    ∷ (codes "time", Some (integer_data time))
    ∷ (codes "txns", Some (txns_data s))
    ∷ (codes "version", Some (count_data version)) ∷ []

abbrev pub loaded_fields : ℕ → State → ℤ → ℕ → Fields
loaded_fields latest s time version =
    (codes "domains", domains_data s) ∷ (codes "files", Some (files_data s)) ∷ (table_fields latest s ++ end_fields s time version)

abbrev pub loaded_data : ℕ → State → ℤ → ℕ → Data
loaded_data latest s time version = object (with_fields (loaded_fields latest s time version))

abbrev pub bad_line_fields : ℕ → List ℕ → Fields
bad_line_fields at reason = (codes "at", Some (count_data at)) ∷ (codes "reply", said (codes "badLine")) ∷ (codes "why", said reason) ∷ []

abbrev pub bad_line : ℕ → LineWhy → Fields
bad_line at why.Utf8 = bad_line_fields at (codes "utf8")
bad_line at why.NotJson = bad_line_fields at (codes "notJson")
bad_line at why.NotObject = bad_line_fields at (codes "notObject")
bad_line at why.Op = bad_line_fields at (codes "op")
bad_line at (why.Field f) =
    (codes "at", Some (count_data at)) ∷ (codes "field", said f) ∷ (codes "reply", said (codes "badLine")) ∷ (codes "why", said (codes "field")) ∷ []
bad_line at why.TooLong = bad_line_fields at (codes "tooLong")

-- the name of the reply alone, or with the last version
abbrev pub named_fields : List ℕ → Fields
named_fields name = (codes "reply", said name) ∷ []

abbrev pub latest_fields : ℕ → List ℕ → Fields
latest_fields latest name = (codes "latest", Some (count_data latest)) ∷ (codes "reply", said name) ∷ []

abbrev pub committed_front : Option ℕ → Fields
committed_front base = (codes "base", Some (base_data base)) ∷ (codes "reply", said (codes "committed")) ∷ []

-- the time and the version of a commit
abbrev pub moment_fields : ℤ → ℕ → Fields
moment_fields time version = (codes "time", Some (integer_data time)) ∷ (codes "version", Some (count_data version)) ∷ []

abbrev pub conflict_front : ℕ → List ℕ → ℕ → Fields
conflict_front base key latest = (codes "base", Some (count_data base)) ∷ (codes "key", said key) ∷ (codes "latest", Some (count_data latest)) ∷ []

abbrev pub conflict_rest : Rule → Option (List ℕ) → ℕ → Fields
conflict_rest rule vector winner =
    (codes "reply", said (codes "conflict"))
    ∷ (codes "rule", said (rule_name rule))
    ∷ (codes "vector", option_map string vector)
    ∷ (codes "winner", Some (count_data winner)) ∷ []

abbrev pub broken_rest : Broken → Fields
broken_rest b =
    (codes "reply", said (codes "broken"))
    ∷ (codes "rule", said (broken_name b))
    ∷ (codes "vector", option_map string (broken_vector b)) ∷ []

abbrev pub reply_fields : Reply → Fields
reply_fields (reply.Committed base time version) = committed_front base ++ moment_fields time version
reply_fields (reply.Already latest recorded) =
    (codes "latest", Some (count_data latest)) ∷ (codes "recorded", Some (integer_data recorded)) ∷ (codes "reply", said (codes "already")) ∷ []
reply_fields (reply.Loaded s) = loaded_fields s.latest s.state s.time s.version
reply_fields reply.NoTable = named_fields (codes "noTable")
reply_fields (reply.Exists latest) = latest_fields latest (codes "exists")
reply_fields (reply.Broken base b) = (codes "base", Some (base_data base)) ∷ (codes "key", said (broken_key b)) ∷ broken_rest b
reply_fields (reply.Conflict base key latest rule vector winner) = conflict_front base key latest ++ conflict_rest rule vector winner
reply_fields (reply.Contended attempts latest) = (codes "attempts", Some (count_data attempts)) ∷ latest_fields latest (codes "contended")
reply_fields (reply.Full latest) = latest_fields latest (codes "full")
reply_fields (reply.TimeEnd base last) =
    (codes "base", Some (count_data base)) ∷ (codes "last", Some (integer_data last)) ∷ (codes "reply", said (codes "timeEnd")) ∷ []
reply_fields (reply.TooLarge base bytes) =
    (codes "base", Some (base_data base)) ∷ (codes "bytes", Some (count_data bytes)) ∷ (codes "reply", said (codes "tooLarge")) ∷ []
reply_fields (reply.Taken base id version) =
    (codes "base", Some (base_data base))
    ∷ (codes "id", said (uuid_text id))
    ∷ (codes "reply", said (codes "taken"))
    ∷ (codes "version", Some (count_data version)) ∷ []
reply_fields (reply.Fault at) = (codes "name", said (spot_name at)) ∷ (codes "reply", said (codes "fault")) ∷ []
reply_fields reply.Memory = named_fields (codes "memory")
reply_fields (reply.BadLine at w) = bad_line at w

abbrev pub reply_data : Reply → Data
reply_data r = object (with_fields (reply_fields r))

unfoldable pub reply_text_of : Reply → List ℕ
reply_text_of r = compact_text (reply_data r) ++ 10 ∷ []

-- every reply but Loaded
abbrev pub IsShort : Reply → Type 0
IsShort (reply.Loaded s) = ⊥
IsShort (reply.Committed base time version) = ⊤
IsShort (reply.Already latest recorded) = ⊤
IsShort reply.NoTable = ⊤
IsShort (reply.Exists latest) = ⊤
IsShort (reply.Broken base b) = ⊤
IsShort (reply.Conflict base key latest rule vector winner) = ⊤
IsShort (reply.Contended attempts latest) = ⊤
IsShort (reply.Full latest) = ⊤
IsShort (reply.TimeEnd base last) = ⊤
IsShort (reply.TooLarge base bytes) = ⊤
IsShort (reply.Taken base id version) = ⊤
IsShort (reply.Fault at) = ⊤
IsShort reply.Memory = ⊤
IsShort (reply.BadLine at w) = ⊤
