use Rattle.std.proofs.Common.{◌∙◌, ap}
use Rattle.std.specs.FinMap as fin
use Rattle.reconcile.specs.ByFile.{plain_file}
use Rattle.reconcile.proofs.ByFile.{on_ok, by_file-insert_plain}
use Rattle.reconcile.proofs.by_file.ByFile.insert_plain.Goals as goal

pub returns : goal.returns
returns g c =
    on_ok c.insert.result
    (λ e. by_file-insert_plain c.self.inside.plain c.insert.new.self c.self.inside.marked c.args.path c.args.value e
    ∙ ap (λ m. fin.insert m (plain_file c.args.path) c.args.value) c.self.view_is)
    c.insert.ensures.ok
