use Rattle.std.proofs.Common.{ℕ, List, ◌==◌, subst}
use Rattle.std.specs.List.{IsDistinct}
use Rattle.action_json.proofs.Quickly.{quick_outcome}
use Rattle.action_json.proofs.quick.read_quickly.Goals as goal

pub returns-then-are_distinct-clause-actions : goal.returns-then-are_distinct-clause-actions
returns-then-are_distinct-clause-actions c =
    let said = rw c.in-Some.is at c.in_ok-actions.ensures.said in
    let digested = rw c.in-Some.is at c.in_ok-actions.ensures.digested in
    let apart = c.are_distinct.ensures.0 c.if-are_distinct.true in
    quick_outcome c.args.bytes.now c.in-Some.field-0.actions.items said (subst (λ (l : List ℕ). IsDistinct ◌==◌ l) digested apart)
