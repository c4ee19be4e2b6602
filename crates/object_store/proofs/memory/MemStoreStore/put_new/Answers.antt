use Rattle.object_store.proofs.Counting.{put_counts, put_last}
use Rattle.object_store.proofs.memory.MemStoreStore.put_new.Goals as goal

pub returns-clause-counts : goal.returns-clause-counts
returns-clause-counts c = put_counts c.args.self.now c.args.name.now c.args.bytes.now c.put.result c.put.new.self c.put.ensures

pub returns-clause-last : goal.returns-clause-last
returns-clause-last c = put_last c.args.self.now c.args.name.now c.args.bytes.now c.put.result c.put.new.self c.put.ensures
