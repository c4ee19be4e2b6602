-- What a checkpoint text is (Delta protocol, "V2 Spec", without sidecars): lines in any order.
use Rattle.std.specs.Prelude.{◌≡◌, ℕ, ◌≤◌, Bool, true, false, List, [], ◌∷◌, Result, Ok, Err, flat_map}
use Rattle.std.specs.List.{AllByRecursion, count_by, list_any}
use Rattle.text_lines.specs.Lines.{cut}
use Rattle.action_types.specs.declared.actions.Action.{Action}
use Rattle.action_types.specs.Files.{File}
use Rattle.action_json.specs.CheckpointLines.{checkpoint_line_of}
use Rattle.action_json.specs.Commit.{mentions, is_of_app, is_of_domain, is_info, is_protocol, is_meta}
use Rattle.action_json.specs.declared.checkpoint_line.CheckpointLine.{CheckpointLine}
use Rattle.action_json.specs.declared.checkpoint_line.CheckpointLine.TheVariants as says
use Rattle.action_json.specs.declared.fault.Why.{Why}

-- the action that a line says, if it says one
abbrev pub action_in : Result CheckpointLine Why → List Action
action_in (Ok says.Blank) = []
action_in (Ok says.Unread) = []
action_in (Ok (says.Says a)) = a ∷ []
action_in (Ok (says.Version v)) = []
action_in (Ok says.Sidecar) = []
action_in (Err w) = []

-- the version that it says
abbrev pub version_in : Result CheckpointLine Why → List ℕ
version_in (Ok says.Blank) = []
version_in (Ok says.Unread) = []
version_in (Ok (says.Says a)) = []
version_in (Ok (says.Version v)) = v ∷ []
version_in (Ok says.Sidecar) = []
version_in (Err w) = []

-- it is read, and no sidecar
abbrev pub is_plain : Result CheckpointLine Why → Bool
is_plain (Ok says.Blank) = true
is_plain (Ok says.Unread) = true
is_plain (Ok (says.Says a)) = true
is_plain (Ok (says.Version v)) = true
is_plain (Ok says.Sidecar) = false
is_plain (Err w) = false

-- the actions that lines say, in the order of the lines
abbrev pub actions_in : List (List ℕ) → List Action
actions_in lines = flat_map (λ l. action_in (checkpoint_line_of l)) lines

-- the versions that lines say
abbrev pub versions_in : List (List ℕ) → List ℕ
versions_in lines = flat_map (λ l. version_in (checkpoint_line_of l)) lines

abbrev pub actions_of : List ℕ → List Action
actions_of bytes = actions_in (cut bytes)

abbrev pub versions_of : List ℕ → List ℕ
versions_of bytes = versions_in (cut bytes)

-- no file stands twice among the adds and removes, no application twice among the txns, no domain twice, and no protocol, metaData or
-- commitInfo
pub record HasNoDoubles (actions : List Action) : Type 0 where
  pub file : (file : File) → count_by (mentions file) actions ≤ 1
  pub app : (app : List ℕ) → count_by (is_of_app app) actions ≤ 1
  pub domain : (domain : List ℕ) → count_by (is_of_domain domain) actions ≤ 1
  pub protocol : count_by is_protocol actions ≤ 1
  pub meta : count_by is_meta actions ≤ 1
  pub info : count_by is_info actions ≤ 1

-- the bytes are a checkpoint text of this version with these actions: each line is read, none is a sidecar, one says the version, the
-- actions have no doubles, and a protocol and a metaData are among them
pub record IsCheckpointText (bytes : List ℕ) (version : ℕ) (actions : List Action) : Type 0 where
  pub plain : AllByRecursion (λ l. is_plain (checkpoint_line_of l) ≡ true) (cut bytes)
  pub of_version : versions_of bytes ≡ version ∷ []
  pub all : actions ≡ actions_of bytes
  pub apart : HasNoDoubles actions
  pub protocol : list_any is_protocol actions ≡ true
  pub meta : list_any is_meta actions ≡ true
