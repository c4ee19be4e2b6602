-- What a list of commits says of a table (Delta protocol, "Action Reconciliation"): of a file, of an application, of a domain, of the
-- protocol and of the metadata, the last commit that mentions it decides, and the time is the last commit's. A commit is the list of its
-- actions, and a log the list of its commits, the first one first.
use Rattle.std.specs.Prelude.{ℕ, ℤ, List, [], ◌∷◌, false, Option, Some, None, option_and_then, if◌then◌else◌}
use Rattle.action_types.specs.declared.actions.Action.{Action}
use Rattle.action_types.specs.declared.actions.Action.TheVariants as action
use Rattle.action_types.specs.declared.actions.Add.{Add}
use Rattle.action_types.specs.declared.actions.Remove.{Remove}
use Rattle.action_types.specs.declared.actions.Txn.{Txn}
use Rattle.action_types.specs.declared.actions.Domain.{Domain}
use Rattle.action_types.specs.declared.actions.Protocol.{Protocol}
use Rattle.action_types.specs.declared.actions.Meta.{Meta}
use Rattle.reconcile.specs.Keys.{Key, key_of, key_of_remove, same_key, same_name, same_app}

abbrev pub Log : Type 0
Log = List (List Action)

-- the first of two answers that is one
abbrev pub or_else : {B : Type 0} → Option B → Option B → Option B
or_else None b = b
or_else (Some a) b = Some a

-- what the last element that says something says
abbrev pub last_said : {A B : Type 0} → (A → Option B) → List A → Option B
last_said says [] = None
last_said says (x ∷ xs) = or_else (last_said says xs) (says x)

-- what the last action that says something says, in the last commit that has such an action
abbrev pub in_log : {B : Type 0} → (Action → Option B) → Log → Option B
in_log says log = last_said (last_said says) log

-- ---- files

-- what an action says of a file: that it is there, or that it is gone, with all fields but `dataChange`, which is kept as false
pub data Mention : Type 0 where
  added : Add → Mention
  removed : Remove → Mention

abbrev pub mention : Key → Action → Option Mention
mention key (action.Add add) = if same_key key (key_of add) then Some (added (record add { change = false })) else None
mention key (action.Remove remove) = if same_key key (key_of_remove remove) then Some (removed (record remove { change = false })) else None
mention key _ = None

abbrev pub as_added : Mention → Option Add
as_added (added add) = Some add
as_added (removed remove) = None

abbrev pub as_removed : Mention → Option Remove
as_removed (added add) = None
as_removed (removed remove) = Some remove

-- the live file of a key: the last commit that mentions the key adds it
unfoldable pub live_at : Key → Log → Option Add
live_at key log = option_and_then as_added (in_log (mention key) log)

-- the tombstone of a key: the last commit that mentions the key removes it
unfoldable pub gone_at : Key → Log → Option Remove
gone_at key log = option_and_then as_removed (in_log (mention key) log)

-- ---- applications, domains, protocol and metadata

abbrev pub txn_said : List ℕ → Action → Option Txn
txn_said app (action.Txn txn) = if same_app app txn.app then Some txn else None
txn_said app _ = None

-- the latest txn of an application
unfoldable pub txn_at : List ℕ → Log → Option Txn
txn_at app log = in_log (txn_said app) log

abbrev pub domain_said : List ℕ → Action → Option Domain
domain_said name (action.Domain domain) = if same_name name domain.domain then Some domain else None
domain_said name _ = None

-- a domain that is not removed
abbrev pub present : Domain → Option Domain
present domain = if domain.removed then None else Some domain

-- the domain of a name as the last commit that mentions it has it, and none where that commit removes it
unfoldable pub domain_at : List ℕ → Log → Option Domain
domain_at name log = option_and_then present (in_log (domain_said name) log)

abbrev pub protocol_said : Action → Option Protocol
protocol_said (action.Protocol protocol) = Some protocol
protocol_said _ = None

unfoldable pub protocol_of_log : Log → Option Protocol
protocol_of_log log = in_log protocol_said log

abbrev pub meta_said : Action → Option Meta
meta_said (action.Meta meta) = Some meta
meta_said _ = None

unfoldable pub meta_of_log : Log → Option Meta
meta_of_log log = in_log meta_said log

-- ---- time

abbrev pub time_said : Action → Option ℤ
time_said (action.Info info) = Some info.time
time_said _ = None

abbrev pub last_commit : Log → Option (List Action)
last_commit log = last_said Some log

-- the in-commit timestamp of the last commit, and none where that commit has none, whatever the commits before it have
unfoldable pub time_of_log : Log → Option ℤ
time_of_log log = option_and_then (last_said time_said) (last_commit log)
