use Rattle.std.proofs.Common.{rules}
use Rattle.action_fields.specs.Bodies.{vector_of, required}
use Rattle.action_fields.proofs.vector.read_vector.Goals as goal

pub returns-in_err-size : goal.returns-in_err-size
unfolding vector_of required
returns-in_err-size c = rw (c.in_ok-cardinality.ensures, c.in_ok-offset.ensures, c.in_ok-locator.ensures) (search rules)

pub returns-in_err-storage : goal.returns-in_err-storage
unfolding vector_of required
returns-in_err-storage c = rw (c.in_ok-cardinality.ensures, c.in_ok-offset.ensures, c.in_ok-locator.ensures, c.in_ok-size.ensures) (search rules)

pub returns : goal.returns
unfolding vector_of
returns c = rw (c.in_ok-cardinality.ensures, c.in_ok-offset.ensures, c.in_ok-locator.ensures, c.in_ok-size.ensures, c.in_ok-storage.ensures) (search rules)
