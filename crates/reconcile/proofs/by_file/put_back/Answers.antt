use Rattle.std.proofs.Common.{◌∙◌, ap, refl}
use Rattle.std.specs.FinMap as fin
use Rattle.reconcile.proofs.ByFile.{on_ok, PutsBack-insert, PutsBack-empty}
use Rattle.reconcile.proofs.by_file.put_back.Goals as goal

pub returns-then-is_empty : goal.returns-then-is_empty
returns-then-is_empty g c =
    PutsBack-empty c.args.marked.now c.args.marked.now c.args.path.now c.args.files (c.is_empty.ensures c.if-is_empty.true) refl

pub returns : goal.returns
returns g c =
    on_ok c.insert.result
    (λ e. PutsBack-insert c.args.marked.now c.insert.new.self c.args.path.now c.args.files
    (e ∙ ap (λ k. fin.insert c.args.marked.now k c.args.files) c.in_ok-from_str.ensures))
    c.insert.ensures.ok
