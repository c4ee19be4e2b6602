use Rattle.std.proofs.Common.{◌∙◌, ap, subst}
use Rattle.std.specs.Prelude.{None}
use Rattle.std.specs.FinMap as fin
use Rattle.action_types.specs.Files.{unique_id}
use Rattle.reconcile.specs.ByFile.{marked_file, ChangesAt}
use Rattle.reconcile.proofs.ByFile.{on_ok, by_file-remove_marked}
use Rattle.reconcile.proofs.by_file.ByFile.remove_marked.Goals as goal

pub returns : goal.returns
returns g c =
    on_ok c.strike.result
    (λ e. by_file-remove_marked c.self.inside.plain c.self.inside.marked c.strike.new.marked c.args.path.now (unique_id c.args.vector.now)
    (subst (λ k. ChangesAt c.self.inside.marked c.strike.new.marked c.args.path.now k None) (c.as_str.ensures ∙ c.in_ok-id.ensures) e)
    ∙ ap (λ m. fin.remove m (marked_file c.args.path.now (unique_id c.args.vector.now))) c.self.view_is)
    c.strike.ensures
