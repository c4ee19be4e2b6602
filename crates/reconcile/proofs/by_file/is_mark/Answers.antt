use Rattle.std.proofs.Common.{◌∙◌, ap}
use Rattle.std.specs.Fmt.{signed_decimal}
use Rattle.std.proofs.lemmas.Int.{to_z-of_z}
use Rattle.reconcile.proofs.Ids.{mark_then, mark_not, mark_none}
use Rattle.reconcile.proofs.by_file.is_mark.Goals as goal

pub returns-then-mark-eq64 : goal.returns-then-mark-eq64
returns-then-mark-eq64 c =
    mark_then c.args.number c.args.text.now c.in-Some.digits.now c.as_bytes.result.now c.in-Some.mark.now c.eq.result
    c.in-Some.ensures.cases.0 c.if-mark-eq64.true (c.as_bytes.ensures.value ∙ c.format.ensures.text ∙ ap signed_decimal (to_z-of_z _ _ c.ranges.number)) c.eq.ensures

pub returns-else-mark-eq64 : goal.returns-else-mark-eq64
returns-else-mark-eq64 c = mark_not c.args.number c.args.text.now c.in-Some.digits.now c.in-Some.mark.now c.in-Some.ensures.cases.0 c.if-mark-eq64.false

pub returns-in-None : goal.returns-in-None
returns-in-None c = mark_none c.args.number c.args.text.now c.in-None.ensures.cases
