use Rattle.std.proofs.Common.{rules}
use Rattle.action_fields.specs.Bodies.{meta, required}
use Rattle.action_fields.proofs.read.read_meta.Goals as goal

pub returns-in_err-schema : goal.returns-in_err-schema
unfolding meta required
returns-in_err-schema c = rw (c.in_ok-configuration.ensures, c.in_ok-created.ensures, c.in_ok-description.ensures, c.in_ok-format.ensures, c.in_ok-id.ensures, c.in_ok-name.ensures, c.in_ok-columns.ensures) (search rules)

pub returns : goal.returns
unfolding meta
returns c = rw (c.in_ok-configuration.ensures, c.in_ok-created.ensures, c.in_ok-description.ensures, c.in_ok-format.ensures, c.in_ok-id.ensures, c.in_ok-name.ensures, c.in_ok-columns.ensures, c.in_ok-schema.ensures) (search rules)
