use Rattle.std.proofs.Common.{ap, refl, ◌∙◌}
use Rattle.std.specs.Prelude.{is_some}
use Rattle.std.specs.FinMap as fin
use Rattle.reconcile.specs.Keys.{name_cmp}
use Rattle.reconcile.proofs.newest.NewestFirst.new.Goals as goal

pub returns : goal.returns
returns c = record {
  stands = c.empty.ensures;
  dropped = λ name. ap is_some (ap (λ m. fin.get m name) c.new.ensures ∙ fin.get-empty name_cmp name);
  begun = refl;
}
