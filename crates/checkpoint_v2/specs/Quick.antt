-- What the lines of a checkpoint say where none has a fault of its own, but perhaps a double among the actions.
use Rattle.std.specs.Prelude.{◌≡◌, ℕ, List, [], ◌∷◌, ◌++◌, map, is_some, Option, Some, None, Result, Ok, Err, if◌then◌else◌}
use Rattle.action_types.specs.declared.actions.Action.{Action}
use Rattle.action_json.specs.CheckpointLines.{checkpoint_line_of}
use Rattle.action_json.specs.Digests.{digest_of}
use Rattle.action_json.specs.declared.checkpoint_line.CheckpointLine.{CheckpointLine}
use Rattle.action_json.specs.declared.checkpoint_line.CheckpointLine.TheVariants as says
use Rattle.action_json.specs.declared.fault.Why.{Why}
use Rattle.checkpoint_v2.specs.declared.quick.Quick.{Quick}

-- a version, if one was said, and actions
pub record Found : Type 0 where
  pub version : Option ℕ
  pub actions : List Action

-- a line after a version and the actions `done`
abbrev pub said_after : Option ℕ → List Action → (Option ℕ → List Action → Option Found) → Result CheckpointLine Why → Option Found
said_after version done rest (Ok says.Blank) = rest version done
said_after version done rest (Ok says.Unread) = rest version done
said_after version done rest (Ok (says.Says a)) = rest version (done ++ a ∷ [])
said_after version done rest (Ok (says.Version v)) = if is_some version then None else rest (Some v) done
said_after version done rest (Ok says.Sidecar) = None
said_after version done rest (Err w) = None

-- what is found with the lines after; none where a line has a fault of its own
unfoldable pub said_from : Option ℕ → List Action → List (List ℕ) → Option Found
said_from version done [] = Some (record { version = version; actions = done })
said_from version done (l ∷ ls) = said_after version done (λ v more. said_from v more ls) (checkpoint_line_of l)

abbrev pub found : Quick → Found
found q = record { version = q.version; actions = q.actions.items }

-- what a quick reading that has come to a line still gives
abbrev pub quick_left : Quick → List (List ℕ) → Option Found
quick_left q lines = said_from q.version q.actions.items lines

-- each action has its digest
abbrev pub IsDigested : Quick → Type 0
IsDigested q = q.digests.items ≡ map digest_of q.actions.items
