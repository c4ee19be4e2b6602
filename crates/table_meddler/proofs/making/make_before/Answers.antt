use Rattle.table_meddler.proofs.Made.{done_at, not_at}
use Rattle.table_meddler.proofs.making.make_before.Goals as goal

pub returns-then-foreign-number-clause-done : goal.returns-then-foreign-number-clause-done
returns-then-foreign-number-clause-done g c = not_at _ _ _ _ c.if-foreign-number.true

pub returns-clause-done : goal.returns-clause-done
returns-clause-done g c = done_at _ _ _ c.in_ok-make.field-0 _ _ c.if-foreign-number.false c.in_ok-make.ensures.meets
