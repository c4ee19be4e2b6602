-- The lines, piece by piece.
use Rattle.std.proofs.Common.{◌++◌, ◌∙◌, ap}
use Rattle.http_wire.specs.Responses.{header_lines}
use Rattle.http_wire.proofs.Putting.{four}
use Rattle.http_wire.proofs.response.push_header_lines.Goals as goal

pub returns-clause-bytes : goal.returns-clause-bytes
unfolding header_lines
returns-clause-bytes c =
    four c.args.head.now.bytes _ _ _ _ _ _ _ _ c.push_str.ensures.bytes (c.push_str-2.ensures.bytes ∙ ap (λ t. c.push_str.new.self.bytes ++ t) c.type_of.ensures.text)
    c.push_str-3.ensures.bytes c.push_number.ensures.bytes
