use Rattle.std.proofs.Common.{rules}
use Rattle.staged_commit.specs.Writes.{domains_cmp}
use Rattle.staged_commit.proofs.Orders.{domains_total}
use Rattle.staged_commit.proofs.Sorts.{sorted-references}
use Rattle.staged_commit.proofs.contents.domains_in_order.Goals as goal

pub returns : goal.returns
returns c =
    sorted-references domains_cmp domains_total c.args.domains.now c.in_ok-list.list.items c.sort_by.new.self.items c.in_ok-list.ensures
    c.in_ok-sort_by.ensures.sorted c.in_ok-sort_by.ensures.stable (λ a r f k. search rules)
