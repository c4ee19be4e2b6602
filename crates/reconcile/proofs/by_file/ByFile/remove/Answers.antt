use Rattle.std.proofs.Common.{◌∙◌, ap, sym}
use Rattle.std.specs.FinMap as fin
use Rattle.action_types.specs.Files.{id_of}
use Rattle.reconcile.proofs.ByFile.{on_ok}
use Rattle.reconcile.proofs.by_file.ByFile.remove.Goals as goal

pub returns-in-None : goal.returns-in-None
returns-in-None g c =
    c.remove_plain.ensures ∙ ap (λ v. fin.remove c.args.self.now (record { path = c.args.key.path.now; id = id_of v })) (sym c.in-None.is)

pub returns-in-Some : goal.returns-in-Some
returns-in-Some g c =
    on_ok c.remove_marked.result
    (λ e. e ∙ ap (λ v. fin.remove c.args.self.now (record { path = c.args.key.path.now; id = id_of v })) (sym c.in-Some.is))
    c.remove_marked.ensures
