use Rattle.std.proofs.Common.{ℕ, List, ◌==◌, subst}
use Rattle.std.specs.List.{IsDistinct}
use Rattle.checkpoint_v2.specs.Quick.{found}
use Rattle.checkpoint_v2.proofs.Quickly.{quick_outcome}
use Rattle.checkpoint_v2.proofs.quick.read_quickly.Goals as goal

pub returns-then-are_distinct : goal.returns-then-are_distinct
returns-then-are_distinct c = λ wanted.
    let said = rw c.in-Some.is at c.in_ok-version.ensures.said in
    let digested = rw c.in-Some.is at c.in_ok-version.ensures.digested in
    let apart = c.are_distinct.ensures.0 c.if-are_distinct.true in
    quick_outcome wanted c.args.bytes.now (found c.in-Some.field-0) said (subst (λ (l : List ℕ). IsDistinct ◌==◌ l) digested apart)
