use Rattle.std.proofs.Common.{◌∙◌}
use Rattle.object_store.proofs.Counted.{put_fails}
use Rattle.object_store.proofs.directory.DirStore.put.Goals as goal

pub returns-in-Err-put_file : goal.returns-in-Err-put_file
returns-in-Err-put_file g c =
    put_fails g.D.Disk.did c.args.self.now c.self.inside.disk c.self.inside.next c.self.inside.faults c.args.name.now c.args.bytes.now
    c.in-Ok.folder c.in-Err-put_file.field-0 c.put_file.new.disk c.saturating_add-self-inside.result c.fail.result c.fail.new.self
    (c.self.view_is ∙ c.in-Ok.ensures.same) c.in-Ok.ensures.admits c.in-Err-put_file.ensures c.saturating_add-self-inside.ensures c.fail.ensures.failed c.fail.ensures.counted
