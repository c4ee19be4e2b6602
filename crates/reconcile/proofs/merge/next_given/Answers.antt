use Rattle.std.proofs.Common.{ap}
use Rattle.reconcile.specs.Left.{given_left}
use Rattle.reconcile.proofs.Walking.{given_next}
use Rattle.reconcile.proofs.merge.next_given.Goals as goal

pub returns-in-Some : goal.returns-in-Some
returns-in-Some g c = given_next c.args.given.now _ c.next.new.self c.next.result c.in-Some.is c.next.ensures.steps

pub returns-in-None : goal.returns-in-None
returns-in-None g c = (ap given_left c.in-None.is, ap given_left c.in-None.is)
