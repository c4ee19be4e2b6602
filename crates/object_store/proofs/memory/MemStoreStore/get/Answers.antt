use Rattle.object_store.proofs.Counting.{get_counts, get_last}
use Rattle.object_store.proofs.memory.MemStoreStore.get.Goals as goal

pub returns-clause-counts : goal.returns-clause-counts
returns-clause-counts c = get_counts c.args.self.now c.args.name.now c.read.result c.read.new.self c.read.ensures

pub returns-clause-last : goal.returns-clause-last
returns-clause-last c = get_last c.args.self.now c.args.name.now c.read.result c.read.new.self c.read.ensures
