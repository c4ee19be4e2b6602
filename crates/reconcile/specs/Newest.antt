-- Commits on top of a base, whatever the base: of a file, an application, a domain, the protocol and the metadata the last commit that
-- mentions it decides, and the base answers the rest; the time is the last commit's, and the base's where there is no commit.
use Rattle.std.specs.Prelude.{◌≡◌, ℕ, List, Option, Some, None}
use Rattle.reconcile.specs.Keys.{Key}
use Rattle.reconcile.specs.Replay.{Log, or_else, last_said, in_log, mention, as_added, as_removed, txn_said, domain_said, present, protocol_said, meta_said, time_said, last_commit}
use Rattle.reconcile.specs.Standing.{live_in, gone_in, txn_in, domain_in, protocol_in, meta_in, time_in}
use Rattle.reconcile.specs.declared.state.State.{State}

-- what the last mention says, and the base where there is none
abbrev pub told : {A B : Type 0} → (A → Option B) → Option A → Option B → Option B
told says None base = base
told says (Some mention) base = says mention

-- the state is that of the base and these commits
pub record IsAfter (s base : State) (newer : Log) : Type 0 where
  pub live : (key : Key) → live_in s key ≡ told as_added (in_log (mention key) newer) (live_in base key)
  pub gone : (key : Key) → gone_in s key ≡ told as_removed (in_log (mention key) newer) (gone_in base key)
  pub txn : (app : List ℕ) → txn_in s app ≡ or_else (in_log (txn_said app) newer) (txn_in base app)
  pub domain : (name : List ℕ) → domain_in s name ≡ told present (in_log (domain_said name) newer) (domain_in base name)
  pub protocol : protocol_in s ≡ or_else (in_log protocol_said newer) (protocol_in base)
  pub meta : meta_in s ≡ or_else (in_log meta_said newer) (meta_in base)
  pub time : time_in s ≡ told (last_said time_said) (last_commit newer) (time_in base)
