-- The reason that an error names; none for want of memory.
use Rattle.std.specs.Prelude.{Option, Some, None}
use Rattle.action_fields.specs.declared.fault.BadBody.{BadBody}
use Rattle.action_fields.specs.declared.fault.BadBody.TheVariants as body
use Rattle.session_lines.specs.declared.fault.BadLine.{BadLine}
use Rattle.session_lines.specs.declared.fault.BadLine.TheVariants as bad
use Rattle.session_lines.specs.declared.fault.LineWhy.{LineWhy}
use Rattle.session_lines.specs.declared.fault.LineWhy.TheVariants as why

abbrev pub told : BadLine → Option LineWhy
told bad.Utf8 = Some why.Utf8
told bad.NotJson = Some why.NotJson
told bad.NotObject = Some why.NotObject
told bad.Op = Some why.Op
told (bad.Field f) = Some (why.Field f)
told bad.Memory = None

-- a faulty field of a body is a faulty member
abbrev pub of_body : BadBody → BadLine
of_body (body.Field f) = bad.Field f
of_body body.Memory = bad.Memory
