-- A state stands for a log where its look-ups are what the log's replay says.
use Rattle.std.specs.Prelude.{◌≡◌, ℕ, ℤ, List, Option}
use Rattle.std.specs.FinMap as fin
use Rattle.action_types.specs.declared.actions.Add.{Add}
use Rattle.action_types.specs.declared.actions.Remove.{Remove}
use Rattle.action_types.specs.declared.actions.Txn.{Txn}
use Rattle.action_types.specs.declared.actions.Domain.{Domain}
use Rattle.action_types.specs.declared.actions.Protocol.{Protocol}
use Rattle.action_types.specs.declared.actions.Meta.{Meta}
use Rattle.reconcile.specs.Keys.{Key}
use Rattle.reconcile.specs.Replay.{Log, live_at, gone_at, txn_at, domain_at, protocol_of_log, meta_of_log, time_of_log}
use Rattle.reconcile.specs.declared.state.State.{State}

-- the live file of a key
abbrev pub live_in : State → Key → Option Add
live_in s key = fin.get s.live key

-- the tombstone of a key
abbrev pub gone_in : State → Key → Option Remove
gone_in s key = fin.get s.gone key

-- the latest txn of an application
abbrev pub txn_in : State → List ℕ → Option Txn
txn_in s app = fin.get s.txns app

-- a domain that is not removed
abbrev pub domain_in : State → List ℕ → Option Domain
domain_in s name = fin.get s.domains name

abbrev pub protocol_in : State → Option Protocol
protocol_in s = s.protocol

abbrev pub meta_in : State → Option Meta
meta_in s = s.meta

abbrev pub time_in : State → Option ℤ
time_in s = s.time

-- all but the time: what a checkpoint holds
pub record HasTableOf (s : State) (log : Log) : Type 0 where
  pub live : (key : Key) → live_in s key ≡ live_at key log
  pub gone : (key : Key) → gone_in s key ≡ gone_at key log
  pub txn : (app : List ℕ) → txn_in s app ≡ txn_at app log
  pub domain : (name : List ℕ) → domain_in s name ≡ domain_at name log
  pub protocol : protocol_in s ≡ protocol_of_log log
  pub meta : meta_in s ≡ meta_of_log log

pub record StandsFor (s : State) (log : Log) : Type 0 where
  pub table : HasTableOf s log
  pub time : time_in s ≡ time_of_log log

-- the live files in their order
abbrev pub files_in : State → List Add
files_in s = fin.values s.live

-- the tombstones in the order of their files
abbrev pub tombstones_in : State → List Remove
tombstones_in s = fin.values s.gone

-- the latest txns in byte order of their applications
abbrev pub txns_in : State → List Txn
txns_in s = fin.values s.txns

-- the domains that are not removed, in byte order of their names
abbrev pub domains_in : State → List Domain
domains_in s = fin.values s.domains
