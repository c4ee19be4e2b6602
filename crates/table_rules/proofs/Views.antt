-- A state that stands for a log has what the rules look at.
use Rattle.std.proofs.Common.{◌≡◌, option_map}
use Rattle.action_types.specs.declared.actions.Txn.{Txn}
use Rattle.reconcile.specs.Replay.{Log}
use Rattle.reconcile.specs.Standing.{StandsFor}
use Rattle.reconcile.specs.declared.state.State.{State}
use Rattle.table_rules.specs.Broken.{after}
use Rattle.table_rules.specs.Seen.{seen}

pub seen-after : (state : State) (log : Log) → StandsFor state log → seen state ≡ after log
seen-after state log h = λ i. record {
  live = λ file. h.table.live file i;
  number = λ app. option_map (λ (t : Txn). t.number) (h.table.txn app i);
  protocol = h.table.protocol i;
  meta = h.table.meta i;
  time = h.time i;
}
