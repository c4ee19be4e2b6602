use Rattle.std.proofs.Common.{◌∙◌, ap}
use Rattle.std.specs.FinMap as fin
use Rattle.reconcile.specs.ByFile.{or_empty}
use Rattle.reconcile.proofs.ByFile.{on_ok, PutsBack-insert}
use Rattle.reconcile.proofs.Laying.{lays_ids}
use Rattle.reconcile.proofs.by_file.lay_ids.Goals as goal

pub returns : goal.returns
returns g c =
    on_ok c.insert.result
    (λ e. lays_ids c.args.marked.now c.take_files-files.new.marked c.insert.new.self c.args.path c.take_files-files.result c.args.newer c.lay.new.self
    (c.take_files-files.ensures.value ∙ ap (λ k. or_empty (fin.get c.args.marked.now k)) c.as_str.ensures)
    (c.take_files-files.ensures.rest ∙ ap (fin.remove c.args.marked.now) c.as_str.ensures)
    c.in_ok-lay.ensures
    (PutsBack-insert c.take_files-files.new.marked c.insert.new.self c.args.path c.lay.new.self e))
    c.insert.ensures.ok
