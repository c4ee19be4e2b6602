-- The orders of a commit's contents are total.
use Rattle.std.specs.Cmp.{IsTotalOrder}
use Rattle.std.proofs.lemmas.Cmp.{nat_list_cmp_total, on_total}
use Rattle.action_types.specs.declared.actions.Domain.{Domain}
use Rattle.action_types.specs.Files.{file_cmp_total, file_of_add, file_of_remove}
use Rattle.staged_commit.specs.Writes.{adds_cmp, domains_cmp, removes_cmp}

pub adds_total : IsTotalOrder adds_cmp
adds_total = on_total file_of_add file_cmp_total

pub removes_total : IsTotalOrder removes_cmp
removes_total = on_total file_of_remove file_cmp_total

pub domains_total : IsTotalOrder domains_cmp
domains_total = on_total (λ (d : Domain). d.domain) nat_list_cmp_total
