-- What a line asks for, or the first reason why it is no request.
use Rattle.std.specs.Prelude.{ℕ, List, [], codes, Option, Some, None, option_and_then, Result, Ok, Err, if◌then◌else◌, ⊤}
use Rattle.std.specs.Str.{is_utf8}
use Rattle.serde_json.specs.Data.{Data, Members}
use Rattle.serde_json.specs.Find.{as_object, as_str, get}
use Rattle.serde_json.specs.Read.{read}
use Rattle.action_fields.specs.Bodies.{required}
use Rattle.action_fields.specs.Gives.{◌>>=◌}
use Rattle.action_fields.specs.Types.{path, from_zero}
use Rattle.conflict_rules.specs.declared.intent.Level.TheVariants as level
use Rattle.conflict_rules.specs.declared.intent.Reads.TheVariants as reads
use Rattle.staged_commit.specs.Composed.{IsAppend, IsCreate}
use Rattle.session_lines.specs.Members.{op_named, other_member, schema, files_or_none}
use Rattle.session_lines.specs.declared.op.Op.{Op}
use Rattle.session_lines.specs.declared.op.Op.TheVariants as op
use Rattle.session_lines.specs.declared.fault.LineWhy.{LineWhy}
use Rattle.session_lines.specs.declared.fault.LineWhy.TheVariants as why
use Rattle.session_lines.specs.declared.request.Request.{Request}
use Rattle.session_lines.specs.declared.request.Request.TheVariants as request

-- ---- the members of each request, in byte order of their names; the fault is the least faulty one

unfoldable pub create_of : Data → Result Request (List ℕ)
create_of d = do
  id ← required path (codes "id") d
  text ← required schema (codes "schema") d
  Ok (request.Create (record { id = id; name = None; description = None; schema = text; partition = []; configuration = []; features = None }))

unfoldable pub write_of : Data → Result Request (List ℕ)
write_of d = do
  adds ← files_or_none (codes "adds") d
  app ← required path (codes "app") d
  number ← required from_zero (codes "number") d
  Ok (request.Write (record { app = app; number = number; level = level.WriteSerializable; reads = reads.None; adds = adds; removes = []; domains = []; change = None }))

abbrev pub members_say : Op → Data → Result Request (List ℕ)
members_say op.Create d = create_of d
members_say op.Load d = Ok request.Load
members_say op.Write d = write_of d

-- ---- a line

abbrev pub or_why : {A : Type 0} → LineWhy → Option A → Result A LineWhy
or_why w None = Err w
or_why w (Some a) = Ok a

abbrev pub or_field : {A : Type 0} → Result A (List ℕ) → Result A LineWhy
or_field (Ok a) = Ok a
or_field (Err f) = Err (why.Field f)

abbrev pub unless_other : Option (List ℕ) → Result Request LineWhy → Result Request LineWhy
unless_other None r = r
unless_other (Some f) r = Err (why.Field f)

-- the request that the op of this object stands for
abbrev pub op_in : Data → Option Op
op_in d = option_and_then op_named (option_and_then as_str (get (codes "op") d))

unfoldable pub op_request : Op → Members → Data → Result Request LineWhy
op_request o ms d = unless_other (other_member o ms) (or_field (members_say o d))

unfoldable pub value_request : Data → Result Request LineWhy
value_request d = do
  ms ← or_why why.NotObject (as_object d)
  o ← or_why why.Op (op_in d)
  op_request o ms d

unfoldable pub text_request : List ℕ → Result Request LineWhy
text_request line = do
  d ← or_why why.NotJson (read line)
  value_request d

unfoldable pub request_of : List ℕ → Result Request LineWhy
request_of line = if is_utf8 line then text_request line else Err why.Utf8

-- ---- what is known of a request that was read: it can be composed

abbrev pub IsRequest : Request → Type 0
IsRequest (request.Create create) = IsCreate create
IsRequest (request.Write intent) = IsAppend intent
IsRequest request.Load = ⊤
