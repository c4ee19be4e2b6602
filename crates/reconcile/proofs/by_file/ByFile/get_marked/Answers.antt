use Rattle.std.proofs.Common.{◌∙◌, ap, sym}
use Rattle.std.specs.Prelude.{Some, option_and_then}
use Rattle.std.specs.Option.{option_copied}
use Rattle.std.specs.FinMap as fin
use Rattle.action_types.specs.Files.{unique_id}
use Rattle.reconcile.specs.ByFile.{marked_file}
use Rattle.reconcile.proofs.InFileOrder.{get-by_file}
use Rattle.reconcile.proofs.by_file.ByFile.get_marked.Goals as goal

pub returns-in-Some : goal.returns-in-Some
returns-in-Some g c =
    c.of_vector.ensures
    ∙ ap (option_and_then (λ n. fin.get n (unique_id c.args.vector.now))) (ap option_copied (sym c.in-Some.is) ∙ c.get.ensures)
    ∙ sym (get-by_file c.self.inside.plain c.self.inside.marked c.args.path.now (Some (unique_id c.args.vector.now)))
    ∙ ap (λ m. fin.get m (marked_file c.args.path.now (unique_id c.args.vector.now))) c.self.view_is

pub returns-in-None : goal.returns-in-None
returns-in-None g c =
    ap (option_and_then (λ n. fin.get n (unique_id c.args.vector.now))) (ap option_copied (sym c.in-None.is) ∙ c.get.ensures)
    ∙ sym (get-by_file c.self.inside.plain c.self.inside.marked c.args.path.now (Some (unique_id c.args.vector.now)))
    ∙ ap (λ m. fin.get m (marked_file c.args.path.now (unique_id c.args.vector.now))) c.self.view_is
