-- What commits that were read from the newest one back decide: of each file, application and domain, of the protocol and of the metadata
-- their last mention, and the time of the newest one. A domain whose last mention removes it is decided too, though no state has it.
use Rattle.std.specs.Prelude.{◌≡◌, ℕ, Bool, false, List, Option, Some, None, is_some}
use Rattle.std.specs.FinMap as fin
use Rattle.action_types.specs.declared.actions.Domain.{Domain}
use Rattle.reconcile.specs.Replay.{Log, in_log, domain_said, last_commit}
use Rattle.reconcile.specs.Standing.{StandsFor}
use Rattle.reconcile.specs.declared.newest.NewestFirst.{NewestFirst}

-- whether a last mention removes the domain
abbrev pub is_removal : Option Domain → Bool
is_removal None = false
is_removal (Some domain) = domain.removed

-- whether a domain was dropped
abbrev pub is_dropped_in : NewestFirst → List ℕ → Bool
is_dropped_in n name = is_some (fin.get n.dropped name)

-- these are the commits that were read
pub record Newer (n : NewestFirst) (log : Log) : Type 0 where
  pub stands : StandsFor n.newer log
  pub dropped : (name : List ℕ) → is_dropped_in n name ≡ is_removal (in_log (domain_said name) log)
  pub begun : n.begun ≡ is_some (last_commit log)
