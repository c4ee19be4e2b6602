-- The live files and the tombstones of a log as lists in the order of files, and the latest txns and the domains in byte order of their
-- names, each key once.
use Rattle.std.specs.Prelude.{◌≡◌, ℕ, List, map, find, Option, Some, None, option_map}
use Rattle.std.specs.declared.cmp.Ordering.{Ordering}
use Rattle.std.specs.List.{filter_map, flat_map}
use Rattle.std.specs.List.Sorted.{IsStrictlySortedBy}
use Rattle.std.specs.Ordering.{eq_by_cmp}
use Rattle.std.specs.FinMap as fin
use Rattle.action_types.specs.declared.actions.Action.{Action}
use Rattle.action_types.specs.declared.actions.Action.TheVariants as action
use Rattle.action_types.specs.declared.actions.Add.{Add}
use Rattle.action_types.specs.declared.actions.Remove.{Remove}
use Rattle.action_types.specs.declared.actions.Txn.{Txn}
use Rattle.action_types.specs.declared.actions.Domain.{Domain}
use Rattle.reconcile.specs.Keys.{Key, key_of, key_of_remove, key_cmp, name_cmp}
use Rattle.reconcile.specs.Replay.{Log, live_at, gone_at, txn_at, domain_at}

-- the list has a value at a key exactly where one is told there, and its keys rise
pub record Lists {K V : Type 0} (order : K → K → Ordering) (key : V → K) (list : List V) (told : K → Option V) : Type 0 where
  pub rising : IsStrictlySortedBy order (map key list)
  pub tells : (k : K) → find (λ v. eq_by_cmp order k (key v)) list ≡ told k

-- what is told at these keys, in their order, each key once
abbrev pub in_order : {K V : Type 0} → (K → K → Ordering) → (K → Option V) → List K → List V
in_order order told keys = fin.values (fin.from_entries {R = order} (filter_map (λ k. option_map (λ v. (k, v)) (told k)) keys))

abbrev pub file_named : Action → Option Key
file_named (action.Add add) = Some (key_of add)
file_named (action.Remove remove) = Some (key_of_remove remove)
file_named _ = None

abbrev pub app_named : Action → Option (List ℕ)
app_named (action.Txn txn) = Some txn.app
app_named _ = None

abbrev pub domain_named : Action → Option (List ℕ)
domain_named (action.Domain domain) = Some domain.domain
domain_named _ = None

-- the live files
unfoldable pub files_of : Log → List Add
files_of log = in_order key_cmp (λ k. live_at k log) (flat_map (filter_map file_named) log)

-- the tombstones
unfoldable pub tombstones_of : Log → List Remove
tombstones_of log = in_order key_cmp (λ k. gone_at k log) (flat_map (filter_map file_named) log)

-- the latest txn of each application
unfoldable pub txns_of : Log → List Txn
txns_of log = in_order name_cmp (λ app. txn_at app log) (flat_map (filter_map app_named) log)

-- the domains that are not removed
unfoldable pub domains_of : Log → List Domain
domains_of log = in_order name_cmp (λ name. domain_at name log) (flat_map (filter_map domain_named) log)
