use Rattle.object_store.proofs.Counted.{get_counts, get_last, untold_get}
use Rattle.object_store.proofs.directory.DirStoreStore.get.Goals as goal

pub returns-clause-told : goal.returns-clause-told
returns-clause-told g c = untold_get c.args.name.now c.read.result

pub returns-clause-counts : goal.returns-clause-counts
returns-clause-counts g c = get_counts g.D.Disk.did c.args.self.now c.args.name.now c.read.result c.read.new.self c.read.ensures

pub returns-clause-last : goal.returns-clause-last
returns-clause-last g c = get_last g.D.Disk.did c.args.self.now c.args.name.now c.read.result c.read.new.self c.read.ensures
