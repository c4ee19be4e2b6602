use Rattle.std.proofs.Common.{rules}
use Rattle.action_fields.specs.Bodies.{remove, optional, required}
use Rattle.action_fields.proofs.read.read_remove.Goals as goal

pub returns-in_err-path : goal.returns-in_err-path
unfolding remove required
returns-in_err-path c = rw (c.in_ok-change.ensures, c.in_ok-deleted.ensures, c.in_ok-vector.ensures, c.in_ok-extended.ensures, c.in_ok-values.ensures) (search rules)

pub returns-in_err-size : goal.returns-in_err-size
unfolding remove optional
returns-in_err-size c = rw (c.in_ok-change.ensures, c.in_ok-deleted.ensures, c.in_ok-vector.ensures, c.in_ok-extended.ensures, c.in_ok-values.ensures, c.in_ok-path.ensures) (search rules)

pub returns : goal.returns
unfolding remove
returns c = rw (c.in_ok-change.ensures, c.in_ok-deleted.ensures, c.in_ok-vector.ensures, c.in_ok-extended.ensures, c.in_ok-values.ensures, c.in_ok-path.ensures, c.in_ok-size.ensures) (search rules)
