use Rattle.std.proofs.Common.{◌∙◌}
use Rattle.object_store.proofs.HeldFiles.{found, items_of_found}
use Rattle.object_store.proofs.shelf.Shelf.get.Goals as goal

pub returns : goal.returns
returns c = items_of_found c.get.result ∙ found c.self.inside.entries.entries c.args.self.now c.args.name.now _ c.self.view_is c.get.ensures.value
