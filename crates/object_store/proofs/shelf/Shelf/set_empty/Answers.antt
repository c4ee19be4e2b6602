use Rattle.object_store.proofs.HeldFiles.{set-held}
use Rattle.object_store.proofs.shelf.Shelf.set_empty.Goals as goal

pub returns : goal.returns
returns c =
    set-held c.args.self.now c.self.inside.entries c.insert.new.self c.args.name.now _ c.new-value.result
    c.self.view_is c.in_ok-text.ensures.ok c.new-value.ensures.items c.in_ok-insert.ensures.updates
