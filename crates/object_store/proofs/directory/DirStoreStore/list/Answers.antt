use Rattle.object_store.proofs.Counted.{list_counts, list_last}
use Rattle.object_store.proofs.directory.DirStoreStore.list.Goals as goal

pub returns-clause-counts : goal.returns-clause-counts
returns-clause-counts g c = list_counts g.D.Disk.did (λ names. names.items) c.args.self.now c.names.result c.names.new.self c.names.ensures

pub returns-clause-last : goal.returns-clause-last
returns-clause-last g c = list_last g.D.Disk.did (λ names. names.items) c.args.self.now c.names.result c.names.new.self c.names.ensures
