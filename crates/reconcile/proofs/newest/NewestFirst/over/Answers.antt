use Rattle.std.proofs.Common.{◌∷◌}
use Rattle.reconcile.proofs.Decided.{IsAfter-over}
use Rattle.reconcile.proofs.Standing.{if_ok, StandsFor-after, StandsFor-commits}
use Rattle.reconcile.proofs.newest.NewestFirst.over.Goals as goal

pub returns : goal.returns
returns c = record {
  on_base = λ log h. if_ok c.laid_on.result (λ s o. IsAfter-over s c.args.base c.args.self log h o) c.laid_on.ensures;
  stands = λ log new b h. if_ok c.laid_on.result (λ s o. StandsFor-after s c.args.base log new b (IsAfter-over s c.args.base c.args.self new h o)) c.laid_on.ensures;
  on_table = λ log new commit b h. if_ok c.laid_on.result
      (λ s o. StandsFor-commits s c.args.base log commit new b (IsAfter-over s c.args.base c.args.self (commit ∷ new) h o)) c.laid_on.ensures;
}
