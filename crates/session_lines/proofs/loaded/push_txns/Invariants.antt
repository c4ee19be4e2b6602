use Rattle.std.proofs.Common.{◌≡◌, ◌++◌, true, false, map}
use Rattle.serde_json.specs.Written.{items_text}
use Rattle.action_types.specs.declared.actions.Action.TheVariants as action
use Rattle.reconcile.specs.Standing.{txns_in}
use Rattle.session_lines.specs.Replies.{bodies_items}
use Rattle.session_lines.proofs.loaded.push_txns.Given as goal

abbrev pub invariant-loop-txn : goal.invariant-loop-txn
invariant-loop-txn l =
    (goal.iterator-loop-txn).can_next l.txn-iterator ×
    (goal.iterator-loop-txn).is_finite l.txn-iterator ×
    (l.out.items ++ items_text l.later (bodies_items true (map action.Txn l.txn-iterator))
    ≡ l.initial.out.items ++ items_text false (bodies_items true (map action.Txn (txns_in l.state))))
