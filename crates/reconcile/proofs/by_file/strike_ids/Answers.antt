use Rattle.reconcile.proofs.ByFile.{on_ok}
use Rattle.reconcile.proofs.Laying.{strikes_ids}
use Rattle.reconcile.proofs.by_file.strike_ids.Goals as goal

pub returns : goal.returns
returns g c =
    on_ok c.put_back.result
    (strikes_ids c.args.marked.now c.take_files-files.new.marked c.put_back.new.marked c.args.path.now c.take_files-files.result c.strike.new.self c.args.ids.now
    c.take_files-files.ensures.value c.take_files-files.ensures.rest c.strike.ensures)
    c.put_back.ensures
