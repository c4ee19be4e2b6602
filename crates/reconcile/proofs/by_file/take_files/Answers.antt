use Rattle.std.proofs.Common.{◌∙◌, ap, sym}
use Rattle.reconcile.specs.ByFile.{or_empty}
use Rattle.reconcile.proofs.by_file.take_files.Goals as goal

pub returns-in-Some-clause-value : goal.returns-in-Some-clause-value
returns-in-Some-clause-value g c = ap or_empty (sym c.in-Some.is ∙ c.take.ensures.value)

pub returns-in-None-clause-value : goal.returns-in-None-clause-value
returns-in-None-clause-value g c = c.new.ensures ∙ ap or_empty (sym c.in-None.is ∙ c.take.ensures.value)
