use Rattle.std.proofs.Common.{◌≡◌, ◌++◌, map, take}
use Rattle.action_types.specs.declared.actions.Action.TheVariants as action
use Rattle.staged_commit.proofs.contents.with_domains.Given as goal

abbrev pub invariant-loop-domain : goal.invariant-loop-domain
invariant-loop-domain l = l.actions.items ≡ l.initial.actions.items ++ map (λ d. action.Domain d.now) (take l.domain-index l.domains)
