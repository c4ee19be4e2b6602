use Rattle.std.proofs.Common.{rules}
use Rattle.action_fields.specs.Bodies.{optional, protocol}
use Rattle.action_fields.proofs.read.read_protocol.Goals as goal

pub returns-in_err-writer_features : goal.returns-in_err-writer_features
unfolding protocol optional
returns-in_err-writer_features c = rw (c.in_ok-reader.ensures, c.in_ok-writer.ensures, c.in_ok-reader_features.ensures) (search rules)

pub returns : goal.returns
unfolding protocol
returns c = rw (c.in_ok-reader.ensures, c.in_ok-writer.ensures, c.in_ok-reader_features.ensures, c.in_ok-writer_features.ensures) (search rules)
