use Rattle.std.proofs.Common.{◌∙◌, cond}
use Rattle.std.specs.Prelude.{None, is_some}
use Rattle.std.specs.FinMap as fin
use Rattle.reconcile.proofs.ByFile.{on_ok}
use Rattle.reconcile.proofs.Laying.{strikes_files}
use Rattle.reconcile.proofs.by_file.ByFile.strike.Goals as goal

pub returns : goal.returns
returns g c =
    on_ok c.strike_marked.result
    (λ e f. strikes_files c.self.inside.plain c.strike.new.self c.files.inside.plain c.self.inside.marked c.strike_marked.new.marked c.files.inside.marked c.strike.ensures e f
    ∙ (λ i. cond (is_some (fin.get (c.files.view_is i) f)) None (fin.get (c.self.view_is i) f)))
    c.strike_marked.ensures
