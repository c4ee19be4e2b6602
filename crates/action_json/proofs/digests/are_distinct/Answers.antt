use Rattle.std.proofs.Common.{◌≡◌, ℕ, List, nat_lt, rules, subst}
use Rattle.std.specs.List.{IsAllAdjacentAnswer}
use Rattle.std.proofs.lemmas.List.Sorted.{answers_always}
use Rattle.action_json.proofs.Distinct.{distinct_by_order}
use Rattle.action_json.proofs.digests.are_distinct.Goals as goal

pub returns : goal.returns
returns c =
    let answer = c.is_sorted_by.ensures.cases nat_lt (answers_always _ _ _ (λ f a r g called. search rules)) in
    distinct_by_order c.args.digests.items c.sort_unstable.new.self.items c.is_sorted_by.result c.sort_unstable.ensures.permutation c.sort_unstable.ensures.sorted
    (subst (λ (l : List ℕ). IsAllAdjacentAnswer (λ x y b. b ≡ nat_lt x y) l c.is_sorted_by.result) c.deref.ensures.value answer)
