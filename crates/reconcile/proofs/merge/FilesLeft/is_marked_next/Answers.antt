use Rattle.std.proofs.Common.{◌∙◌, ap}
use Rattle.reconcile.specs.Left.{name_after}
use Rattle.reconcile.proofs.Walking.{not_marked, marked_is}
use Rattle.reconcile.proofs.merge.FilesLeft.is_marked_next.Goals as goal

pub returns-in-Some : goal.returns-in-Some
returns-in-Some g c =
    marked_is c.args.self.now.plain c.args.self.now.marked c.in-Some.marked c.name.result c.is_after.result c.in-Some.is c.name.ensures
    (c.is_after.ensures ∙ ap (λ p. name_after p c.in-Some.marked.now) c.name-in-Some.ensures)

pub returns-in-None : goal.returns-in-None
returns-in-None g c = not_marked c.args.self.now.plain c.args.self.now.marked c.name.result c.in-None.is c.name.ensures
