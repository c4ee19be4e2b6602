use Rattle.std.proofs.Common.{◌∙◌, ap, sym}
use Rattle.std.specs.Option.{option_copied}
use Rattle.std.specs.Ordering.{is_gt}
use Rattle.reconcile.specs.Left.{name_after}
use Rattle.reconcile.proofs.merge.is_after.Goals as goal

pub returns-in-Some : goal.returns-in-Some
returns-in-Some c =
    c.is_gt.ensures ∙ ap is_gt c.cmp.ensures ∙ ap (λ p. name_after (option_copied p) c.args.marked.now) (sym c.in-Some.is)

pub returns-in-None : goal.returns-in-None
returns-in-None c = ap (λ p. name_after (option_copied p) c.args.marked.now) (sym c.in-None.is)
