use Rattle.std.proofs.Common.{◌∙◌}
use Rattle.object_store.proofs.HeldFiles.{stands-held}
use Rattle.object_store.proofs.shelf.Shelf.has.Goals as goal

pub returns : goal.returns
returns c = c.contains_key.ensures ∙ stands-held c.self.inside.entries.entries c.args.self.now c.args.name.now c.self.view_is
