use Rattle.reconcile.proofs.ByFile.{on_ok, ChangesAt-strike}
use Rattle.reconcile.proofs.by_file.strike.Goals as goal

pub returns : goal.returns
returns g c =
    on_ok c.put_back.result
    (λ e. ChangesAt-strike c.args.marked.now c.take_files-files.new.marked c.put_back.new.marked c.args.path.now c.args.id.now c.take_files-files.result c.remove.new.self
    c.take_files-files.ensures.value c.take_files-files.ensures.rest c.remove.ensures e)
    c.put_back.ensures
