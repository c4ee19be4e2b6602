use Rattle.object_store.proofs.Counted.{delete_counts, delete_last, untold_delete}
use Rattle.object_store.proofs.directory.DirStoreStore.delete.Goals as goal

pub returns-clause-told : goal.returns-clause-told
returns-clause-told g c = untold_delete c.args.name.now c.remove.result

pub returns-clause-counts : goal.returns-clause-counts
returns-clause-counts g c = delete_counts g.D.Disk.did c.args.self.now c.args.name.now c.remove.result c.remove.new.self c.remove.ensures

pub returns-clause-last : goal.returns-clause-last
returns-clause-last g c = delete_last g.D.Disk.did c.args.self.now c.args.name.now c.remove.result c.remove.new.self c.remove.ensures
