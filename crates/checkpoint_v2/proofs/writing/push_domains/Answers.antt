use Rattle.action_types.specs.declared.actions.Action.TheVariants as action
use Rattle.reconcile.specs.Standing.{domains_in}
use Rattle.checkpoint_v2.proofs.Pushing.{makes_step, makes_end}
use Rattle.checkpoint_v2.proofs.writing.push_domains.Goals as goal

pub loop-domain-preserved : goal.loop-domain-preserved
loop-domain-preserved c =
    (tt, tt, makes_step action.Domain (domains_in c.args.state.now) c.args.text.now.items c.in_ok-push_domain.field-0 c.loop-domain.text.items c.push_domain.new.text.items c.in-Some.domain.now c.loop-domain.domain-iterator c.next.new.self c.in-Some.ensures.steps c.in_ok-push_domain.ensures c.loop-domain.invariant.2)

pub returns : goal.returns
returns c = makes_end action.Domain (domains_in c.args.state.now) c.args.text.now.items tt c.loop-domain.text.items c.loop-domain.domain-iterator c.in-None.ensures.steps.0 c.loop-domain.invariant.2
