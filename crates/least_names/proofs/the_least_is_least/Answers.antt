use Rattle.std.proofs.lemmas.Cmp.{nat_list_cmp_total}
use Rattle.action_types.specs.Files.{file_cmp_total}
use Rattle.least_names.proofs.LeastLemmas.{least-IsLeast}
use Rattle.least_names.proofs.the_least_is_least.Goals as goal

pub returns-clause-names : goal.returns-clause-names
returns-clause-names c = least-IsLeast nat_list_cmp_total

pub returns-clause-files : goal.returns-clause-files
returns-clause-files c = least-IsLeast file_cmp_total
