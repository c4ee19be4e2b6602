use Rattle.std.proofs.Common.{◌∙◌, ap, sym}
use Rattle.std.specs.FinMap as fin
use Rattle.action_types.specs.Files.{id_of}
use Rattle.reconcile.proofs.by_file.ByFile.get.Goals as goal

pub returns-in-None : goal.returns-in-None
returns-in-None g c =
    c.get_plain.ensures ∙ ap (λ v. fin.get c.args.self.now (record { path = c.args.key.path.now; id = id_of v })) (sym c.in-None.is)

pub returns-in-Some : goal.returns-in-Some
returns-in-Some g c =
    c.get_marked.ensures ∙ ap (λ v. fin.get c.args.self.now (record { path = c.args.key.path.now; id = id_of v })) (sym c.in-Some.is)
