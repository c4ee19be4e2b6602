use Rattle.std.proofs.Common.{◌≡◌, drop}
use Rattle.json_tree.specs.View.{items_view}
use Rattle.action_fields.specs.Types.{texts_in}
use Rattle.action_fields.proofs.Lists.{behind}
use Rattle.action_fields.proofs.types.texts_of.Given as goal

abbrev pub invariant-loop-item : goal.invariant-loop-item
invariant-loop-item l = behind l.found (texts_in (items_view (drop l.item-index l.items))) ≡ texts_in (items_view l.items)
