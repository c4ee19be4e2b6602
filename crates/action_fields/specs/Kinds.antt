-- The kinds of lines, by the name of the one member that a line has.
use Rattle.std.specs.Prelude.{ℕ, List, Bool, true, false, codes, bytes_eq, Option, Some, None, if◌then◌else◌}
use Rattle.action_fields.specs.declared.kind.Kind.{Kind}
use Rattle.action_fields.specs.declared.kind.Kind.TheVariants as kind

abbrev pub kind_name : Kind → List ℕ
kind_name kind.Info = codes "commitInfo"
kind_name kind.Protocol = codes "protocol"
kind_name kind.Meta = codes "metaData"
kind_name kind.Txn = codes "txn"
kind_name kind.Domain = codes "domainMetadata"
kind_name kind.Remove = codes "remove"
kind_name kind.Add = codes "add"
kind_name kind.CheckpointMetadata = codes "checkpointMetadata"
kind_name kind.Sidecar = codes "sidecar"

-- the kind of this name
unfoldable pub kind_named : List ℕ → Option Kind
kind_named name =
    if bytes_eq name (codes "commitInfo") then Some kind.Info
    else (if bytes_eq name (codes "protocol") then Some kind.Protocol
    else (if bytes_eq name (codes "metaData") then Some kind.Meta
    else (if bytes_eq name (codes "txn") then Some kind.Txn
    else (if bytes_eq name (codes "domainMetadata") then Some kind.Domain
    else (if bytes_eq name (codes "remove") then Some kind.Remove
    else (if bytes_eq name (codes "add") then Some kind.Add
    else (if bytes_eq name (codes "checkpointMetadata") then Some kind.CheckpointMetadata
    else (if bytes_eq name (codes "sidecar") then Some kind.Sidecar
    else None))))))))

-- the kinds of which a commit has lines
abbrev pub is_action : Kind → Bool
is_action kind.Info = true
is_action kind.Protocol = true
is_action kind.Meta = true
is_action kind.Txn = true
is_action kind.Domain = true
is_action kind.Remove = true
is_action kind.Add = true
is_action kind.CheckpointMetadata = false
is_action kind.Sidecar = false
