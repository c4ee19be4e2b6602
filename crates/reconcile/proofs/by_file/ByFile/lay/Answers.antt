use Rattle.std.proofs.Common.{◌∙◌}
use Rattle.std.specs.FinMap as fin
use Rattle.reconcile.specs.Replay.{or_else}
use Rattle.reconcile.proofs.ByFile.{on_ok}
use Rattle.reconcile.proofs.Laying.{lays_files}
use Rattle.reconcile.proofs.by_file.ByFile.lay.Goals as goal

pub returns : goal.returns
returns g c =
    on_ok c.lay_marked.result
    (λ e f. lays_files c.self.inside.plain c.newer.inside.plain c.lay.new.self c.self.inside.marked c.newer.inside.marked c.lay_marked.new.marked c.in_ok-lay.ensures e f
    ∙ (λ i. or_else (fin.get (c.newer.view_is i) f) (fin.get (c.self.view_is i) f)))
    c.lay_marked.ensures
