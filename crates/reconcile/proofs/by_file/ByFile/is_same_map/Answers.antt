use Rattle.reconcile.proofs.Within.{both_told, same_files_map}
use Rattle.reconcile.proofs.by_file.ByFile.is_same_map.Goals as goal

pub returns-then-is_within : goal.returns-then-is_within
returns-then-is_within g c =
    both_told c.is_within.result c.is_within-then-is_within.result c.if-is_within.true c.is_within.ensures c.is_within-then-is_within.ensures
    (same_files_map c.args.self.now c.args.other.now)
