use Rattle.std.proofs.Common.{true, ap, sym, subst, ◌∙◌, ◌∷◌}
use Rattle.reconcile.specs.Newer.{Newer}
use Rattle.reconcile.specs.declared.newest.NewestFirst.{NewestFirst}
use Rattle.reconcile.proofs.Decided.{Newer-older}
use Rattle.reconcile.proofs.newest.NewestFirst.older.Goals as goal

pub returns : goal.returns
returns c = λ log h.
    subst (λ n. Newer n (c.args.actions.now ∷ log)) (sym (c.started.ensures ∙ ap {A = NewestFirst} (λ n. record n { begun = true }) c.in_ok-with_actions.ensures))
    (Newer-older c.args.self c.args.actions.now log h)
