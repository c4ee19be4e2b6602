use Rattle.std.proofs.Common.{◌∙◌, map, sym}
use Rattle.reconcile.specs.ByFile.{in_file_order}
use Rattle.reconcile.proofs.InFileOrder.{values-by_file}
use Rattle.reconcile.proofs.merge.FilesLeft.new.Goals as goal

pub returns : goal.returns
returns g c = (λ i. map (λ e. e.1) (in_file_order (c.new.ensures i) (c.new-2.ensures i))) ∙ sym (values-by_file c.args.plain.now c.args.marked.now)
