use Rattle.action_types.specs.declared.actions.Action.TheVariants as action
use Rattle.reconcile.specs.Standing.{domains_in}
use Rattle.checkpoint_v2.proofs.Pushing.{Makes}
use Rattle.checkpoint_v2.proofs.writing.push_domains.Given as goal

abbrev pub invariant-loop-domain : goal.invariant-loop-domain
invariant-loop-domain l =
    (goal.iterator-loop-domain).can_next l.domain-iterator ×
    (goal.iterator-loop-domain).is_finite l.domain-iterator ×
    Makes action.Domain (domains_in l.state) l.initial.text.items l.text.items l.domain-iterator
