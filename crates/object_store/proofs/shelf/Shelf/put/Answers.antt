use Rattle.object_store.proofs.HeldFiles.{put-held}
use Rattle.object_store.proofs.shelf.Shelf.put.Goals as goal

pub returns-clause-ok : goal.returns-clause-ok
returns-clause-ok c =
    put-held c.args.self.now c.self.inside.entries c.insert.new.self c.args.name.now c.args.bytes.now _ c.in_ok-value.value _
    c.self.view_is c.if-has.false c.has.ensures c.in_ok-key.ensures.ok (c.in_ok-value.ensures.items_if_clones_equal (λ x y e. e)) c.in_ok-insert.ensures.updates
