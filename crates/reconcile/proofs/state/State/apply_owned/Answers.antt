use Rattle.std.proofs.Common.{[], ◌∷◌}
use Rattle.reconcile.proofs.Standing.{applied, if_ok, StandsFor-after, StandsFor-commits}
use Rattle.reconcile.proofs.state.State.apply_owned.Goals as goal

pub returns : goal.returns
returns c =
    let made = applied c.with_owned_actions.result c.args.self c.untimed.result c.args.actions.items c.untimed.ensures c.with_owned_actions.ensures in
    record {
      stands = λ log h. if_ok c.with_owned_actions.result (λ s a. StandsFor-after s c.args.self log (c.args.actions.items ∷ []) h a) made;
      on_table = λ log h. if_ok c.with_owned_actions.result (λ s a. StandsFor-commits s c.args.self log c.args.actions.items [] h a) made;
      on_base = made;
    }
