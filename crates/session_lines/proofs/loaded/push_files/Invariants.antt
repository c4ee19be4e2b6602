use Rattle.std.proofs.Common.{◌≡◌, ◌++◌, false, map}
use Rattle.serde_json.specs.Written.{items_text}
use Rattle.action_types.specs.declared.actions.Action.TheVariants as action
use Rattle.reconcile.specs.Standing.{files_in}
use Rattle.session_lines.specs.Replies.{bodies_items}
use Rattle.session_lines.proofs.loaded.push_files.Given as goal

abbrev pub invariant-loop-file : goal.invariant-loop-file
invariant-loop-file l =
    (goal.iterator-loop-file).can_next l.file-iterator ×
    (goal.iterator-loop-file).is_finite l.file-iterator ×
    (l.out.items ++ items_text l.later (bodies_items false (map action.Add l.file-iterator))
    ≡ l.initial.out.items ++ items_text false (bodies_items false (map action.Add (files_in l.state))))
