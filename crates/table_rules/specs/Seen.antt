-- What the rules look at, as a state has it.
use Rattle.std.specs.Prelude.{ℕ, ℤ, List, Option, option_map}
use Rattle.action_types.specs.declared.actions.Txn.{Txn}
use Rattle.reconcile.specs.Standing.{live_in, txn_in, protocol_in, meta_in, time_in}
use Rattle.reconcile.specs.declared.state.State.{State}
use Rattle.table_rules.specs.Broken.{Before}

-- the number of an application's last txn
abbrev pub number_in : State → List ℕ → Option ℤ
number_in state app = option_map (λ (t : Txn). t.number) (txn_in state app)

-- the table that a state says
abbrev pub seen : State → Before
seen state = record {
  live = live_in state;
  number = number_in state;
  protocol = protocol_in state;
  meta = meta_in state;
  time = time_in state;
}
