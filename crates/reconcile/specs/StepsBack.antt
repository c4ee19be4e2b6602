-- What an older action adds to what newer ones decide: a step between the contracts, and no part of what is decided.
use Rattle.std.specs.Prelude.{◌≡◌, ℕ, Bool, true, ◌||◌, List, [], ◌∷◌, None, is_some, if◌then◌else◌}
use Rattle.std.specs.FinMap as fin
use Rattle.action_types.specs.declared.actions.Action.{Action}
use Rattle.action_types.specs.declared.actions.Action.TheVariants as action
use Rattle.reconcile.specs.Keys.{Key, key_of, key_of_remove}
use Rattle.reconcile.specs.Replay.{or_else}
use Rattle.reconcile.specs.Laying.{LaysOver}
use Rattle.reconcile.specs.Steps.{holding}
use Rattle.reconcile.specs.declared.state.State.{State}
use Rattle.reconcile.specs.declared.newest.NewestFirst.{NewestFirst}

abbrev pub is_file_decided : NewestFirst → Key → Bool
is_file_decided n key = is_some (fin.get n.newer.live key) || is_some (fin.get n.newer.gone key)

abbrev pub is_domain_decided : NewestFirst → List ℕ → Bool
is_domain_decided n name = is_some (fin.get n.newer.domains name) || is_some (fin.get n.dropped name)

-- whether what the action names is decided
abbrev pub is_decided : NewestFirst → Action → Bool
is_decided n (action.Info info) = n.begun || is_some n.newer.time
is_decided n (action.Protocol protocol) = is_some n.newer.protocol
is_decided n (action.Meta meta) = is_some n.newer.meta
is_decided n (action.Txn txn) = is_some (fin.get n.newer.txns txn.app)
is_decided n (action.Domain domain) = is_domain_decided n domain.domain
is_decided n (action.Remove remove) = is_file_decided n (key_of_remove remove)
is_decided n (action.Add add) = is_file_decided n (key_of add)

-- with the domain that the action removes among those that were dropped
abbrev pub dropping : NewestFirst → Action → NewestFirst
dropping n (action.Domain domain) = record n { dropped = (if domain.removed then fin.insert n.dropped domain.domain tt else n.dropped) }
dropping n _ = n

-- with a newer state
abbrev pub with_newer : NewestFirst → State → NewestFirst
with_newer n s = record n { newer = s }

-- with what the action says of what it names
abbrev pub settled : NewestFirst → Action → NewestFirst
settled n a = with_newer (dropping n a) (holding n.newer a)

-- with what the action says of what it names, where that is not decided
abbrev pub before : NewestFirst → Action → NewestFirst
before n a = if is_decided n a then n else settled n a

-- with the actions of a commit, the last one first
abbrev pub all_before : NewestFirst → List Action → NewestFirst
all_before n [] = n
all_before n (a ∷ rest) = before (all_before n rest) a

-- with an older commit
abbrev pub older : NewestFirst → List Action → NewestFirst
older n commit = record (all_before n commit) { begun = true }

-- what is decided laid on a base
pub record IsOver (s base : State) (n : NewestFirst) : Type 0 where
  pub live : (key : Key) → fin.get s.live key ≡ or_else (fin.get n.newer.live key) (if is_some (fin.get n.newer.gone key) then None else fin.get base.live key)
  pub gone : (key : Key) → fin.get s.gone key ≡ or_else (fin.get n.newer.gone key) (if is_some (fin.get n.newer.live key) then None else fin.get base.gone key)
  pub txn : LaysOver base.txns n.newer.txns s.txns
  pub domain : (name : List ℕ) → fin.get s.domains name ≡ or_else (fin.get n.newer.domains name) (if is_some (fin.get n.dropped name) then None else fin.get base.domains name)
  pub protocol : s.protocol ≡ or_else n.newer.protocol base.protocol
  pub meta : s.meta ≡ or_else n.newer.meta base.meta
  pub time : s.time ≡ (if n.begun then n.newer.time else base.time)
