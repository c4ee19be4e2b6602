-- What a line of a checkpoint says (Delta protocol, "Checkpoints"): those of a commit but commitInfo, the version, and sidecars.
use Rattle.std.specs.Prelude.{ℕ, Bool, false, List, codes, Option, Some, None, Result, Ok, Err, if◌then◌else◌}
use Rattle.std.specs.Str.{is_utf8}
use Rattle.text_lines.specs.Lines.{is_blank}
use Rattle.serde_json.specs.Data.{Data}
use Rattle.serde_json.specs.Read.{read}
use Rattle.action_types.specs.declared.actions.Action.{Action}
use Rattle.action_types.specs.declared.actions.Action.TheVariants as action
use Rattle.action_fields.specs.declared.kind.Kind.{Kind}
use Rattle.action_fields.specs.declared.kind.Kind.TheVariants as kind
use Rattle.action_fields.specs.Kinds.{kind_named}
use Rattle.action_fields.specs.Bodies.{body_of}
use Rattle.action_fields.specs.Checkpoints.{version_of, sidecar_of}
use Rattle.action_fields.specs.Gives.{◌>>=◌}
use Rattle.action_json.specs.Lines.{or_why, only_member}
use Rattle.action_json.specs.declared.checkpoint_line.CheckpointLine.{CheckpointLine}
use Rattle.action_json.specs.declared.checkpoint_line.CheckpointLine.TheVariants as says
use Rattle.action_json.specs.declared.fault.Why.{Why}
use Rattle.action_json.specs.declared.fault.Why.TheVariants as why

-- it is a domainMetadata of a domain that is removed
abbrev pub is_removed : Action → Bool
is_removed (action.Info a) = false
is_removed (action.Protocol a) = false
is_removed (action.Meta a) = false
is_removed (action.Txn a) = false
is_removed (action.Domain a) = a.removed
is_removed (action.Remove a) = false
is_removed (action.Add a) = false

-- a domain that is removed has no line in a checkpoint
abbrev pub unless_removed : Action → Result CheckpointLine Why
unless_removed a = if is_removed a then Err (why.Field kind.Domain (codes "removed")) else Ok (says.Says a)

abbrev pub action_said : Kind → Result Action (List ℕ) → Result CheckpointLine Why
action_said k (Ok a) = unless_removed a
action_said k (Err f) = Err (why.Field k f)

abbrev pub version_said : Result ℕ (List ℕ) → Result CheckpointLine Why
version_said (Ok version) = Ok (says.Version version)
version_said (Err f) = Err (why.Field kind.CheckpointMetadata f)

abbrev pub sidecar_said : Result (Unit {0}) (List ℕ) → Result CheckpointLine Why
sidecar_said (Ok u) = Ok says.Sidecar
sidecar_said (Err f) = Err (why.Field kind.Sidecar f)

-- the body of a commitInfo is not looked at
abbrev pub checkpoint_body : Kind → Data → Result CheckpointLine Why
checkpoint_body kind.Info body = Ok says.Unread
checkpoint_body kind.Protocol body = action_said kind.Protocol (body_of kind.Protocol body)
checkpoint_body kind.Meta body = action_said kind.Meta (body_of kind.Meta body)
checkpoint_body kind.Txn body = action_said kind.Txn (body_of kind.Txn body)
checkpoint_body kind.Domain body = action_said kind.Domain (body_of kind.Domain body)
checkpoint_body kind.Remove body = action_said kind.Remove (body_of kind.Remove body)
checkpoint_body kind.Add body = action_said kind.Add (body_of kind.Add body)
checkpoint_body kind.CheckpointMetadata body = version_said (version_of body)
checkpoint_body kind.Sidecar body = sidecar_said (sidecar_of body)

-- a member of an unknown kind is passed over
abbrev pub of_kind : Option Kind → Data → Result CheckpointLine Why
of_kind None body = Ok says.Unread
of_kind (Some k) body = checkpoint_body k body

unfoldable pub checkpoint_member : List ℕ → Data → Result CheckpointLine Why
checkpoint_member name body = of_kind (kind_named name) body

unfoldable pub checkpoint_text : List ℕ → Result CheckpointLine Why
checkpoint_text line = do
  d ← or_why why.NotJson (read line)
  m ← or_why why.NotOneMember (only_member d)
  checkpoint_member m.0 m.1

-- what a line of a checkpoint says, wherever it stands; or its first fault
unfoldable pub checkpoint_line_of : List ℕ → Result CheckpointLine Why
checkpoint_line_of line = if is_blank line then Ok says.Blank else (if is_utf8 line then checkpoint_text line else Err why.Utf8)
