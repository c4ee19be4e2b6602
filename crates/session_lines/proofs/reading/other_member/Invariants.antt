use Rattle.std.proofs.Common.{◌≡◌}
use Rattle.json_tree.specs.View.{members_view}
use Rattle.session_lines.specs.Members.{other_member}
use Rattle.session_lines.proofs.reading.other_member.Given as goal

abbrev pub invariant-loop-name : goal.invariant-loop-name
invariant-loop-name l =
    (goal.iterator-loop-name).can_next l.name-iterator ×
    (goal.iterator-loop-name).is_finite l.name-iterator ×
    (other_member l.op (members_view l.name-iterator) ≡ other_member l.op (members_view l.members.entries))
