use Rattle.std.proofs.Common.{◌∙◌}
use Rattle.reconcile.proofs.Walking.{ahead_next}
use Rattle.reconcile.proofs.ahead.Ahead.new.Goals as goal

pub returns : goal.returns
returns g c = ahead_next c.next-first.result c.entries-rest.result c.next-first.new.self c.next-first.ensures.steps ∙ c.entries-rest.ensures
