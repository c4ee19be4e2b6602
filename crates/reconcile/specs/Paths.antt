-- The replay of a table without deletion vectors, where a file is a path: of a path the last commit that mentions it decides.
use Rattle.std.specs.Prelude.{◌≡◌, ℕ, List, false, Option, Some, None, option_and_then, if◌then◌else◌}
use Rattle.std.specs.List.{AllByRecursion}
use Rattle.action_types.specs.declared.actions.Action.{Action}
use Rattle.action_types.specs.declared.actions.Action.TheVariants as action
use Rattle.action_types.specs.declared.actions.Add.{Add}
use Rattle.action_types.specs.declared.actions.Remove.{Remove}
use Rattle.reconcile.specs.Keys.{same_name}
use Rattle.reconcile.specs.Replay.{Log, in_log, Mention, added, removed, as_added, as_removed}

-- no vector, and no domain
abbrev pub IsPlain : Action → Type 0
IsPlain (action.Add add) = add.vector ≡ None
IsPlain (action.Remove remove) = remove.vector ≡ None
IsPlain (action.Domain domain) = ⊥
IsPlain _ = Unit {0}

abbrev pub IsPlainLog : Log → Type 0
IsPlainLog log = AllByRecursion (AllByRecursion IsPlain) log

abbrev pub path_mention : List ℕ → Action → Option Mention
path_mention path (action.Add add) = if same_name path add.path then Some (added (record add { change = false })) else None
path_mention path (action.Remove remove) = if same_name path remove.path then Some (removed (record remove { change = false })) else None
path_mention path _ = None

-- the live file of a path
unfoldable pub live_path : List ℕ → Log → Option Add
live_path path log = option_and_then as_added (in_log (path_mention path) log)

-- the tombstone of a path
unfoldable pub gone_path : List ℕ → Log → Option Remove
gone_path path log = option_and_then as_removed (in_log (path_mention path) log)
