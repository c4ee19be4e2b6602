use Rattle.std.proofs.Common.{◌∙◌, sym, ap}
use Rattle.std.specs.Prelude.{is_some}
use Rattle.table_meddler.proofs.ReadWorlds.{some_items}
use Rattle.table_meddler.proofs.reading.is_published.Goals as goal

pub returns-clause-stands : goal.returns-clause-stands
returns-clause-stands g c = λ t. ap is_some (c.in_ok-found.ensures.file t) ∙ some_items _ ∙ sym c.is_some.ensures
