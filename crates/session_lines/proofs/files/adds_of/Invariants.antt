use Rattle.std.proofs.Common.{◌≡◌, drop}
use Rattle.json_tree.specs.View.{items_view}
use Rattle.session_lines.specs.Members.{adds_in}
use Rattle.session_lines.proofs.Steps.{behind}
use Rattle.session_lines.proofs.files.adds_of.Given as goal

abbrev pub invariant-loop-item : goal.invariant-loop-item
invariant-loop-item l = behind l.found (adds_in (items_view (drop l.item-index l.items))) ≡ adds_in (items_view l.items)
