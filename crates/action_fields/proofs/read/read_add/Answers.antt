use Rattle.std.proofs.Common.{rules}
use Rattle.action_fields.specs.Bodies.{add, optional, required}
use Rattle.action_fields.proofs.read.read_add.Goals as goal

pub returns-in_err-path : goal.returns-in_err-path
unfolding add required
returns-in_err-path c = rw (c.in_ok-change.ensures, c.in_ok-vector.ensures, c.in_ok-modified.ensures, c.in_ok-values.ensures) (search rules)

pub returns-in_err-size : goal.returns-in_err-size
unfolding add required
returns-in_err-size c = rw (c.in_ok-change.ensures, c.in_ok-vector.ensures, c.in_ok-modified.ensures, c.in_ok-values.ensures, c.in_ok-path.ensures) (search rules)

pub returns-in_err-stats : goal.returns-in_err-stats
unfolding add optional
returns-in_err-stats c = rw (c.in_ok-change.ensures, c.in_ok-vector.ensures, c.in_ok-modified.ensures, c.in_ok-values.ensures, c.in_ok-path.ensures, c.in_ok-size.ensures) (search rules)

pub returns-in_err-tags : goal.returns-in_err-tags
unfolding add optional
returns-in_err-tags c = rw (c.in_ok-change.ensures, c.in_ok-vector.ensures, c.in_ok-modified.ensures, c.in_ok-values.ensures, c.in_ok-path.ensures, c.in_ok-size.ensures, c.in_ok-stats.ensures) (search rules)

pub returns : goal.returns
unfolding add
returns c = rw (c.in_ok-change.ensures, c.in_ok-vector.ensures, c.in_ok-modified.ensures, c.in_ok-values.ensures, c.in_ok-path.ensures, c.in_ok-size.ensures, c.in_ok-stats.ensures, c.in_ok-tags.ensures) (search rules)
