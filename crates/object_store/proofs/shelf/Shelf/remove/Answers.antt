use Rattle.std.proofs.Common.{ap, ◌∙◌}
use Rattle.object_store.specs.Files.{without_file}
use Rattle.object_store.proofs.HeldFiles.{held-remove}
use Rattle.object_store.proofs.shelf.Shelf.remove.Goals as goal

pub returns : goal.returns
returns c =
    held-remove c.self.inside.entries c.remove.new.self c.args.name.now c.remove.ensures.updates
    ∙ ap (λ files. without_file files c.args.name.now) c.self.view_is
