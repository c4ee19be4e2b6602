use Rattle.std.proofs.Common.{◌≡◌, ◌++◌, true, false, map}
use Rattle.serde_json.specs.Written.{items_text}
use Rattle.action_types.specs.declared.actions.Action.TheVariants as action
use Rattle.reconcile.specs.Standing.{domains_in}
use Rattle.session_lines.specs.Replies.{bodies_items}
use Rattle.session_lines.proofs.loaded.push_each_domain.Given as goal

abbrev pub invariant-loop-domain : goal.invariant-loop-domain
invariant-loop-domain l =
    (goal.iterator-loop-domain).can_next l.domain-iterator ×
    (goal.iterator-loop-domain).is_finite l.domain-iterator ×
    (l.out.items ++ items_text l.later (bodies_items true (map action.Domain l.domain-iterator))
    ≡ l.initial.out.items ++ items_text false (bodies_items true (map action.Domain (domains_in l.state))))
