use Rattle.session_lines.proofs.Valid.{valid-if-read}
use Rattle.session_lines.proofs.reading.read_request.Goals as goal

pub returns-clause-valid : goal.returns-clause-valid
returns-clause-valid c = valid-if-read c.args.line.now c.read_line.result c.read_line.ensures
