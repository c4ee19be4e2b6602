use Rattle.std.proofs.Common.{◌∙◌, ap}
use Rattle.std.specs.FinMap as fin
use Rattle.reconcile.specs.ByFile.{marked_file}
use Rattle.reconcile.proofs.ByFile.{on_ok, by_file-insert_marked}
use Rattle.reconcile.proofs.by_file.ByFile.insert_marked.Goals as goal

pub returns : goal.returns
returns g c =
    on_ok c.put.result
    (λ e. by_file-insert_marked c.self.inside.plain c.self.inside.marked c.put.new.marked c.args.path c.args.id c.args.value e
    ∙ ap (λ m. fin.insert m (marked_file c.args.path c.args.id) c.args.value) c.self.view_is)
    c.put.ensures
