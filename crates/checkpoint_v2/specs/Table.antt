-- What a checkpoint is: a checkpoint text whose actions are those of the replay of a log.
use Rattle.std.specs.Prelude.{◌≡◌, ℕ, List, [], ◌∷◌}
use Rattle.action_types.specs.declared.actions.Action.{Action}
use Rattle.reconcile.specs.Keys.{Key}
use Rattle.reconcile.specs.Replay.{Log, live_at, gone_at, txn_at, domain_at, protocol_of_log, meta_of_log}
use Rattle.checkpoint_v2.specs.Text.{IsCheckpointText}

-- two logs have one table: the same live files and tombstones, but for `dataChange`, the same txns and domains, protocol and metadata;
-- the time is left out
pub record HasSameTable (one other : Log) : Type 0 where
  pub live : (key : Key) → live_at key one ≡ live_at key other
  pub gone : (key : Key) → gone_at key one ≡ gone_at key other
  pub txn : (app : List ℕ) → txn_at app one ≡ txn_at app other
  pub domain : (name : List ℕ) → domain_at name one ≡ domain_at name other
  pub protocol : protocol_of_log one ≡ protocol_of_log other
  pub meta : meta_of_log one ≡ meta_of_log other

-- the bytes are a checkpoint of the log up to this version: a checkpoint text of the version whose actions alone, as one commit, have the
-- table of the log
pub record IsCheckpointOf (bytes : List ℕ) (version : ℕ) (log : Log) : Type 0 where
  pub actions : List Action
  pub text : IsCheckpointText bytes version actions
  pub table : HasSameTable (actions ∷ []) log
