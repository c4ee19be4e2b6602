-- The canonical text of a checkpoint: its lines in one order, each canonical.
use Rattle.std.specs.Prelude.{◌≡◌, ℕ, ◌++◌, true, List, [], ◌∷◌, map, codes, Option, Some, None, is_some, Result, OnOk}
use Rattle.std.specs.List.{AllByRecursion}
use Rattle.serde_json.specs.Data.{Data, unsigned, number, object, no_members, member}
use Rattle.serde_json.specs.Written.{compact_text}
use Rattle.text_lines.specs.Lines.{with_lf}
use Rattle.action_types.specs.declared.actions.Action.{Action}
use Rattle.action_types.specs.declared.actions.Action.TheVariants as action
use Rattle.action_types.specs.declared.actions.Protocol.{Protocol}
use Rattle.action_types.specs.declared.actions.Meta.{Meta}
use Rattle.action_fields.specs.Kinds.{kind_name}
use Rattle.action_fields.specs.Valid.{has_valid_fields}
use Rattle.action_fields.specs.declared.kind.Kind.TheVariants as kind
use Rattle.action_json.specs.Commit.{canonical_text, AreWritten}
use Rattle.reconcile.specs.Replay.{Log}
use Rattle.reconcile.specs.Standing.{protocol_in, meta_in, txns_in, domains_in, tombstones_in, files_in}
use Rattle.reconcile.specs.declared.state.State.{State}

-- a checkpointMetadata with the version
abbrev pub metadata_data : ℕ → Data
metadata_data version = object (member (codes "version") (number (unsigned version)) no_members)

abbrev pub version_data : ℕ → Data
version_data version = object (member (kind_name kind.CheckpointMetadata) (metadata_data version) no_members)

-- its line, without the LF
unfoldable pub version_line : ℕ → List ℕ
version_line version = compact_text (version_data version)

abbrev pub protocol_action : Option Protocol → List Action
protocol_action None = []
protocol_action (Some protocol) = action.Protocol protocol ∷ []

abbrev pub meta_action : Option Meta → List Action
meta_action None = []
meta_action (Some meta) = action.Meta meta ∷ []

-- the actions of a state in the order of their lines: the protocol, the metadata, the txns by application, the domains by name, the
-- tombstones and then the files, each in the order of files
abbrev pub table_actions : State → List Action
table_actions s =
    protocol_action (protocol_in s) ++ (meta_action (meta_in s) ++ (map action.Txn (txns_in s) ++ (map action.Domain (domains_in s)
    ++ (map action.Remove (tombstones_in s) ++ map action.Add (files_in s)))))

-- the line of the version and one for each action, each ended by LF
unfoldable pub canonical_checkpoint : ℕ → State → List ℕ
canonical_checkpoint version s = with_lf (version_line version) ++ canonical_text (table_actions s)

-- a table that a checkpoint can hold
pub record HasProtocolAndMeta (s : State) : Type 0 where
  pub protocol : is_some (protocol_in s) ≡ true
  pub meta : is_some (meta_in s) ≡ true

-- each action has fields that a reader accepts
abbrev pub HasValidFields : Log → Type 0
HasValidFields log = AllByRecursion (AllByRecursion (λ a. has_valid_fields a ≡ true)) log

-- ---- a step between the contracts

-- the lines of these actions are appended, and they were written as the types of the code hold them
pub record Pushes {T E : Type 0} (r : Result T E) (old new : List ℕ) (actions : List Action) : Type 0 where
  pub ok : OnOk r (new ≡ old ++ canonical_text actions)
  pub written : OnOk r (AreWritten actions)
