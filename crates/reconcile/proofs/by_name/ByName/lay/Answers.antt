use Rattle.std.proofs.Common.{◌∙◌}
use Rattle.std.specs.FinMap as fin
use Rattle.reconcile.specs.Replay.{or_else}
use Rattle.reconcile.proofs.ByFile.{on_ok}
use Rattle.reconcile.proofs.Laying.{appended}
use Rattle.reconcile.proofs.by_name.ByName.lay.Goals as goal

pub returns : goal.returns
returns g c =
    on_ok c.append.result
    (λ all q. appended c.self.inside.entries c.newer.inside.entries c.append.new.self c.append.ensures.other_was_ordered all q
    ∙ (λ i. or_else (fin.get (c.newer.view_is i) q) (fin.get (c.self.view_is i) q)))
    c.append.ensures.inserts_all
