-- What a line of a commit says.
use Rattle.std.specs.Prelude.{ℕ, ◌&&◌, Bool, not, List, codes, bytes_eq, Option, Some, None, option_and_then, Result, Ok, Err, if◌then◌else◌}
use Rattle.std.specs.Str.{is_utf8}
use Rattle.text_lines.specs.Lines.{is_blank}
use Rattle.serde_json.specs.Data.{Data, Members, no_members, member}
use Rattle.serde_json.specs.Find.{as_object}
use Rattle.serde_json.specs.Read.{read}
use Rattle.action_types.specs.declared.actions.Action.{Action}
use Rattle.action_fields.specs.declared.kind.Kind.{Kind}
use Rattle.action_fields.specs.Kinds.{kind_named, is_action}
use Rattle.action_fields.specs.Bodies.{body_of}
use Rattle.action_fields.specs.Gives.{◌>>=◌}
use Rattle.action_json.specs.declared.line.Line.{Line}
use Rattle.action_json.specs.declared.line.Line.TheVariants.{Blank, Unread, Says}
use Rattle.action_json.specs.declared.fault.Why.{Why}
use Rattle.action_json.specs.declared.fault.Why.TheVariants as why

abbrev pub or_why : {A : Type 0} → Why → Option A → Result A Why
or_why w None = Err w
or_why w (Some a) = Ok a

-- the one member of an object
abbrev pub member_of : Members → Option (List ℕ × Data)
member_of no_members = None
member_of (member k d no_members) = Some (k, d)
member_of (member k d (member l e ms)) = None

abbrev pub only_member : Data → Option (List ℕ × Data)
only_member d = option_and_then member_of (as_object d)

-- the kind of this name, where a commit has lines of it
abbrev pub commit_kind : List ℕ → Option Kind
commit_kind name = option_and_then (λ k. if is_action k then Some k else None) (kind_named name)

abbrev pub said_of : Kind → Result Action (List ℕ) → Result Line Why
said_of k (Ok a) = Ok (Says a)
said_of k (Err f) = Err (why.Field k f)

-- a member of an unknown kind is passed over
abbrev pub body_line : Option Kind → Data → Result Line Why
body_line None body = Ok Unread
body_line (Some k) body = said_of k (body_of k body)

-- the first line that is not blank has to be a commitInfo
unfoldable pub member_line : Bool → List ℕ → Data → Result Line Why
member_line first name body = if first && not (bytes_eq name (codes "commitInfo")) then Err why.InfoNotFirst else body_line (commit_kind name) body

unfoldable pub text_line : Bool → List ℕ → Result Line Why
text_line first line = do
  d ← or_why why.NotJson (read line)
  m ← or_why why.NotOneMember (only_member d)
  member_line first m.0 m.1

-- what a line says where it is, or is not, the first that is not blank; or its first fault
unfoldable pub line_of : Bool → List ℕ → Result Line Why
line_of first line = if is_blank line then Ok Blank else (if is_utf8 line then text_line first line else Err why.Utf8)
