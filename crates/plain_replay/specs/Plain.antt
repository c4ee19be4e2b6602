-- What the plain search asks of an action, and the log that a list of vectors is.
use Rattle.std.specs.Prelude.{ℤ, List, Bool, true, false, map, Option, Some, None}
use Rattle.std.specs.declared.alloc.Global.{Global}
use Rattle.std.specs.declared.vec.Vec.{Vec}
use Rattle.action_types.specs.declared.actions.Action.{Action}
use Rattle.action_types.specs.declared.actions.Action.TheVariants as action
use Rattle.action_types.specs.declared.actions.Add.{Add}
use Rattle.action_types.specs.declared.actions.Remove.{Remove}
use Rattle.action_types.specs.declared.actions.Domain.{Domain}
use Rattle.action_types.specs.Files.{file_of_key}
use Rattle.reconcile.specs.Keys.{key_of, key_of_remove, same_key, same_name, same_app}
use Rattle.reconcile.specs.Replay.{Log}
use Rattle.plain_replay.specs.declared.plain.Asked.{Asked}
use Rattle.plain_replay.specs.declared.plain.Asked.TheVariants as asked

abbrev pub log_of : List (Vec Action Global) → Log
log_of commits = map (λ c. c.items) commits

-- whether an action says something of what is asked
abbrev pub answers : Asked → Action → Bool
answers (asked.File key) (action.Add add) = same_key (file_of_key key) (key_of add)
answers (asked.File key) (action.Remove remove) = same_key (file_of_key key) (key_of_remove remove)
answers (asked.App app) (action.Txn txn) = same_app app.now txn.app
answers (asked.Domain name) (action.Domain domain) = same_name name.now domain.domain
answers asked.Protocol (action.Protocol protocol) = true
answers asked.Meta (action.Meta meta) = true
answers asked.Time (action.Info info) = true
answers _ _ = false

-- a file as the replay keeps it
abbrev pub kept : Add → Add
kept add = record add { change = false }

abbrev pub kept_tombstone : Remove → Remove
kept_tombstone remove = record remove { change = false }

abbrev pub add_of : Action → Option Add
add_of (action.Add add) = Some add
add_of _ = None

abbrev pub remove_of : Action → Option Remove
remove_of (action.Remove remove) = Some remove
remove_of _ = None

abbrev pub number_of : Action → Option ℤ
number_of (action.Txn txn) = Some txn.number
number_of _ = None

abbrev pub domain_of : Action → Option Domain
domain_of (action.Domain domain) = Some domain
domain_of _ = None
