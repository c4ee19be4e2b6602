-- A base under files and names that are decided: steps between the contracts.
use Rattle.std.specs.Prelude.{◌≡◌, ℕ, List, None, is_some, if◌then◌else◌}
use Rattle.std.specs.FinMap as fin
use Rattle.action_types.specs.declared.actions.Add.{Add}
use Rattle.action_types.specs.declared.actions.Remove.{Remove}
use Rattle.action_types.specs.declared.actions.Txn.{Txn}
use Rattle.action_types.specs.declared.actions.Domain.{Domain}
use Rattle.reconcile.specs.Keys.{Key, key_cmp, name_cmp}
use Rattle.reconcile.specs.Replay.{or_else}
use Rattle.reconcile.specs.Laying.{LaysOver}
use Rattle.reconcile.specs.declared.state.State.{State}

pub record IsUnderFiles (s base : State) (live : fin.FinMap key_cmp Add) (gone : fin.FinMap key_cmp Remove) : Type 0 where
  pub live_over : (key : Key) → fin.get s.live key ≡ or_else (fin.get live key) (if is_some (fin.get gone key) then None else fin.get base.live key)
  pub gone_over : (key : Key) → fin.get s.gone key ≡ or_else (fin.get gone key) (if is_some (fin.get live key) then None else fin.get base.gone key)
  pub rest : s ≡ record base { live = s.live; gone = s.gone }

pub record IsUnderNames (s base : State) (txns : fin.FinMap name_cmp Txn) (domains : fin.FinMap name_cmp Domain) (dropped : fin.FinMap name_cmp (Unit {0})) : Type 0 where
  pub txn_over : LaysOver base.txns txns s.txns
  pub domain_over : (name : List ℕ) → fin.get s.domains name ≡ or_else (fin.get domains name) (if is_some (fin.get dropped name) then None else fin.get base.domains name)
  pub rest : s ≡ record base { txns = s.txns; domains = s.domains }
