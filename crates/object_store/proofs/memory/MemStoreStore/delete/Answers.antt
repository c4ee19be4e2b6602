use Rattle.object_store.proofs.Counting.{delete_counts, delete_last}
use Rattle.object_store.proofs.memory.MemStoreStore.delete.Goals as goal

pub returns-clause-counts : goal.returns-clause-counts
returns-clause-counts c = delete_counts c.args.self.now c.args.name.now c.remove.result c.remove.new.self c.remove.ensures

pub returns-clause-last : goal.returns-clause-last
returns-clause-last c = delete_last c.args.self.now c.args.name.now c.remove.result c.remove.new.self c.remove.ensures
