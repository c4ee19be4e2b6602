use Rattle.std.proofs.Common.{◌≡◌}
use Rattle.json_tree.specs.View.{members_view}
use Rattle.action_fields.specs.Types.{pairs_in}
use Rattle.action_fields.proofs.Lists.{behind}
use Rattle.action_fields.proofs.types.values_of.Given as goal

abbrev pub invariant-loop-name : goal.invariant-loop-name
invariant-loop-name l =
    (goal.iterator-loop-name).can_next l.name-iterator ×
    (goal.iterator-loop-name).is_finite l.name-iterator ×
    (behind l.found (pairs_in l.nulls (members_view l.name-iterator)) ≡ pairs_in l.nulls (members_view l.members.entries))
