use Rattle.std.proofs.Common.{ap, sym, ◌∙◌, map}
use Rattle.std.specs.Prelude.{string_bytes}
use Rattle.object_store.proofs.HeldFiles.{names_of-held}
use Rattle.object_store.proofs.shelf.Shelf.names.Goals as goal

pub loop-key-init : goal.loop-key-init
loop-key-init c =
    rw c.new-names.ensures.items
    (ap (map string_bytes) (c.into_iter-key-iterator.ensures.into_iter_gives ∙ c.keys-key-items.ensures.rest)
    ∙ sym (names_of-held c.self.inside.entries c.args.self.now c.self.view_is c.keys-key-items.ensures.ordered))
