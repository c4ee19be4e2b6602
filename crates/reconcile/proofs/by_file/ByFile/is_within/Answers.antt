use Rattle.reconcile.specs.ByFile.{by_file}
use Rattle.reconcile.proofs.Within.{both_told, one_failed, files_within, seen}
use Rattle.reconcile.proofs.by_file.ByFile.is_within.Goals as goal

pub returns-then-is_within : goal.returns-then-is_within
returns-then-is_within g c =
    seen c.is_marked_within.result (by_file c.self.inside.plain c.self.inside.marked) c.args.self.now (by_file c.other.inside.plain c.other.inside.marked) c.args.other.now
    c.self.view_is c.other.view_is
    (both_told c.is_within.result c.is_marked_within.result c.if-is_within.true c.is_within.ensures c.is_marked_within.ensures
    (files_within c.self.inside.plain c.other.inside.plain c.self.inside.marked c.other.inside.marked))

pub returns-else-is_within : goal.returns-else-is_within
returns-else-is_within g c =
    seen c.is_within.result (by_file c.self.inside.plain c.self.inside.marked) c.args.self.now (by_file c.other.inside.plain c.other.inside.marked) c.args.other.now
    c.self.view_is c.other.view_is
    (one_failed c.is_within.result c.if-is_within.false c.is_within.ensures
    (files_within c.self.inside.plain c.other.inside.plain c.self.inside.marked c.other.inside.marked))
