use Rattle.std.proofs.Common.{rules}
use Rattle.staged_commit.specs.Writes.{removes_cmp}
use Rattle.staged_commit.proofs.Orders.{removes_total}
use Rattle.staged_commit.proofs.Sorts.{sorted-references}
use Rattle.staged_commit.proofs.contents.removes_in_order.Goals as goal

pub returns : goal.returns
returns c =
    sorted-references removes_cmp removes_total c.args.removes.now c.in_ok-list.list.items c.sort_by.new.self.items c.in_ok-list.ensures
    c.in_ok-sort_by.ensures.sorted c.in_ok-sort_by.ensures.stable (λ a r f k. search rules)
