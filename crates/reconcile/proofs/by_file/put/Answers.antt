use Rattle.std.proofs.Common.{◌∙◌, ap}
use Rattle.std.specs.FinMap as fin
use Rattle.reconcile.specs.ByFile.{or_empty}
use Rattle.reconcile.proofs.ByFile.{on_ok, ChangesAt-put}
use Rattle.reconcile.proofs.by_file.put.Goals as goal

pub returns : goal.returns
returns g c =
    on_ok c.insert-2.result
    (ChangesAt-put c.args.marked.now c.take_files-files.new.marked c.insert-2.new.self c.args.path c.args.id c.args.value c.take_files-files.result c.insert.new.self
    (c.take_files-files.ensures.value ∙ ap (λ k. or_empty (fin.get c.args.marked.now k)) c.as_str.ensures)
    (c.take_files-files.ensures.rest ∙ ap (fin.remove c.args.marked.now) c.as_str.ensures) c.in_ok-insert.ensures.ok)
    c.insert-2.ensures.ok
