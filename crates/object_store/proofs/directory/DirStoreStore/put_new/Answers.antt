use Rattle.object_store.proofs.Counted.{put_counts, put_last, untold_put}
use Rattle.object_store.proofs.directory.DirStoreStore.put_new.Goals as goal

pub returns-clause-told : goal.returns-clause-told
returns-clause-told g c = untold_put c.args.name.now c.args.bytes.now c.put.result

pub returns-clause-counts : goal.returns-clause-counts
returns-clause-counts g c = put_counts g.D.Disk.did c.args.self.now c.args.name.now c.args.bytes.now c.put.result c.put.new.self c.put.ensures

pub returns-clause-last : goal.returns-clause-last
returns-clause-last g c = put_last g.D.Disk.did c.args.self.now c.args.name.now c.args.bytes.now c.put.result c.put.new.self c.put.ensures
