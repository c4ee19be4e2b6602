-- The status and the body of an answer: one JSON object with its members in byte order of their names, or the bytes of a file.
use Rattle.std.specs.Prelude.{ℕ, List, [], ◌∷◌, codes, Option, Some, None, option_map, unwrap_or}
use Rattle.serde_json.specs.Data.{Data, null, number, unsigned, string, array, object, Items, no_items, item}
use Rattle.serde_json.specs.Written.{compact_text}
use Rattle.action_fields.specs.Canonical.{Fields, with_fields, integer_data}
use Rattle.action_json.specs.declared.fault.Why.{Why}
use Rattle.action_json.specs.declared.fault.Why.TheVariants as why
use Rattle.log_names.specs.declared.LogName.{LogName}
use Rattle.log_names.specs.Texts.{name_text, uuid_text}
use Rattle.http_calls.specs.declared.answer.Answer.{Answer}
use Rattle.http_calls.specs.declared.answer.Answer.TheVariants as answer
use Rattle.http_calls.specs.declared.answer.Entry.{Entry}
use Rattle.http_calls.specs.declared.call.Refusal.{Refusal}
use Rattle.http_calls.specs.declared.call.Refusal.TheVariants as refusal

-- ---- names and values

abbrev pub refusal_name : Refusal → List ℕ
refusal_name refusal.Target = codes "target"
refusal_name refusal.Method = codes "method"
refusal_name refusal.Table = codes "table"
refusal_name refusal.Body = codes "body"

abbrev pub refusal_status : Refusal → ℕ
refusal_status refusal.Target = 404
refusal_status refusal.Method = 405
refusal_status refusal.Table = 404
refusal_status refusal.Body = 400

abbrev pub why_name : Why → List ℕ
why_name why.Utf8 = codes "utf8"
why_name why.NotJson = codes "notJson"
why_name why.NotOneMember = codes "notOneMember"
why_name why.InfoNotFirst = codes "infoNotFirst"
why_name (why.Field kind field) = codes "field"
why_name (why.Double kind key) = codes "double"

-- the file's name, or the empty text for the folder
abbrev pub spot_name : Option LogName → List ℕ
spot_name None = []
spot_name (Some n) = unwrap_or (name_text n) []

abbrev pub count_data : ℕ → Data
count_data n = number (unsigned n)

-- null where the table has no commit
abbrev pub latest_data : Option ℕ → Data
latest_data None = null
latest_data (Some v) = count_data v

abbrev pub said : List ℕ → Option Data
said text = Some (string text)

abbrev pub counted : ℕ → Option Data
counted n = Some (count_data n)

-- ---- the members of each answer

abbrev pub error_fields : List ℕ → Fields
error_fields name = (codes "error", said name) ∷ []

abbrev pub latest_fields : List ℕ → Option ℕ → Fields
latest_fields name latest = (codes "error", said name) ∷ (codes "latest", Some (latest_data latest)) ∷ []

abbrev pub bad_commit_fields : ℕ → List ℕ → Fields
bad_commit_fields line why = (codes "error", said (codes "badCommit")) ∷ (codes "line", counted line) ∷ (codes "why", said why) ∷ []

abbrev pub broken_fields : List ℕ → List ℕ → Option (List ℕ) → Fields
broken_fields key rule vector =
    (codes "error", said (codes "broken")) ∷ (codes "key", said key) ∷ (codes "rule", said rule) ∷ (codes "vector", option_map string vector) ∷ []

unfoldable pub entry_fields : Entry → Fields
entry_fields e = (codes "id", said (uuid_text e.id)) ∷ (codes "time", Some (integer_data e.time)) ∷ (codes "version", counted e.version) ∷ []

abbrev pub entries_items : List Entry → Items
entries_items [] = no_items
entries_items (e ∷ es) = item (object (with_fields (entry_fields e))) (entries_items es)

abbrev pub commits_fields : List Entry → ℕ → ℕ → Fields
commits_fields entries count reported =
    (codes "commits", Some (array (entries_items entries))) ∷ (codes "count", counted count) ∷ (codes "reported", counted reported) ∷ []

abbrev pub version_fields : ℕ → Fields
version_fields version = (codes "version", counted version) ∷ []

abbrev pub staged_fields : ℕ → ℕ → Fields
staged_fields id version = (codes "id", said (uuid_text id)) ∷ (codes "version", counted version) ∷ []

abbrev pub answer_fields : Answer → Fields
answer_fields (answer.Commits entries count reported) = commits_fields entries count reported
answer_fields (answer.Ratified latest version) = (codes "latest", counted latest) ∷ version_fields version
answer_fields (answer.Lost latest) = latest_fields (codes "lost") (Some latest)
answer_fields (answer.Ahead latest) = latest_fields (codes "ahead") latest
answer_fields answer.NotStaged = error_fields (codes "staged")
answer_fields (answer.BadCommit line w) = bad_commit_fields line (why_name w)
answer_fields answer.WrongTime = error_fields (codes "time")
answer_fields (answer.Broken key rule vector) = broken_fields key rule vector
answer_fields (answer.Full latest) = latest_fields (codes "full") (Some latest)
answer_fields (answer.Backlog latest reported) =
    (codes "error", said (codes "backlog")) ∷ (codes "latest", counted latest) ∷ (codes "reported", counted reported) ∷ []
answer_fields (answer.Reported reported) = (codes "reported", counted reported) ∷ []
answer_fields (answer.Gap version) = (codes "error", said (codes "gap")) ∷ version_fields version
answer_fields (answer.Staged id version) = staged_fields id version
answer_fields (answer.StagedBefore id version) = staged_fields id version
answer_fields answer.Taken = error_fields (codes "taken")
answer_fields (answer.Published version) = version_fields version
answer_fields (answer.PublishedBefore version) = version_fields version
answer_fields answer.Differs = error_fields (codes "differs")
answer_fields (answer.File bytes) = []
answer_fields answer.Absent = error_fields (codes "absent")
answer_fields (answer.Refused r) = error_fields (refusal_name r)
answer_fields (answer.Fault file) = (codes "error", said (codes "fault")) ∷ (codes "name", said (spot_name file)) ∷ []
answer_fields answer.Memory = error_fields (codes "memory")

abbrev pub answer_data : Answer → Data
answer_data a = object (with_fields (answer_fields a))

-- the bytes of a file, where the answer is one
abbrev pub file_in : Answer → Option (List ℕ)
file_in (answer.File bytes) = Some bytes
file_in (answer.Commits entries count reported) = None
file_in (answer.Ratified latest version) = None
file_in (answer.Lost latest) = None
file_in (answer.Ahead latest) = None
file_in answer.NotStaged = None
file_in (answer.BadCommit line w) = None
file_in answer.WrongTime = None
file_in (answer.Broken key rule vector) = None
file_in (answer.Full latest) = None
file_in (answer.Backlog latest reported) = None
file_in (answer.Reported reported) = None
file_in (answer.Gap version) = None
file_in (answer.Staged id version) = None
file_in (answer.StagedBefore id version) = None
file_in answer.Taken = None
file_in (answer.Published version) = None
file_in (answer.PublishedBefore version) = None
file_in answer.Differs = None
file_in answer.Absent = None
file_in (answer.Refused r) = None
file_in (answer.Fault file) = None
file_in answer.Memory = None

unfoldable pub answer_body : Answer → List ℕ
answer_body a = unwrap_or (file_in a) (compact_text (answer_data a))

-- ---- statuses

abbrev pub answer_status : Answer → ℕ
answer_status (answer.Commits entries count reported) = 200
answer_status (answer.Ratified latest version) = 200
answer_status (answer.Lost latest) = 409
answer_status (answer.Ahead latest) = 409
answer_status answer.NotStaged = 404
answer_status (answer.BadCommit line w) = 422
answer_status answer.WrongTime = 422
answer_status (answer.Broken key rule vector) = 422
answer_status (answer.Full latest) = 409
answer_status (answer.Backlog latest reported) = 429
answer_status (answer.Reported reported) = 200
answer_status (answer.Gap version) = 409
answer_status (answer.Staged id version) = 201
answer_status (answer.StagedBefore id version) = 200
answer_status answer.Taken = 409
answer_status (answer.Published version) = 201
answer_status (answer.PublishedBefore version) = 200
answer_status answer.Differs = 409
answer_status (answer.File bytes) = 200
answer_status answer.Absent = 404
answer_status (answer.Refused r) = refusal_status r
answer_status (answer.Fault file) = 500
answer_status answer.Memory = 503
