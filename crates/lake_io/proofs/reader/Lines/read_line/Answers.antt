use Rattle.std.proofs.Common.{◌∙◌}
use Rattle.lake_io.proofs.Steps.{exit_end, exit_line, step_more}
use Rattle.lake_io.proofs.reader.Lines.read_line.Goals as goal

pub returns-in-Ok-true-clause-next : goal.returns-in-Ok-true-clause-next
returns-in-Ok-true-clause-next g c =
    exit_line g.S.Source.tells _ _ _ _ c.args.self.now c.parts.self c.take_part.new.self c.parts.part c.take_part.new.part c.in-Ok-true.field-0 c.hand.result c.requires c.parts.invariant.line c.in-Ok-true.field-0-test c.in-Ok-true.ensures.ok c.hand.ensures

pub parts-preserved : goal.parts-preserved
parts-preserved g c = record {
  line = step_more g.S.Source.tells _ _ (g.S.Source.taken c.parts.source) (g.S.Source.left c.parts.source) _ _ c.args.self.now c.parts.self c.take_part.new.self c.fill.new.self c.parts.part c.take_part.new.part c.in-Ok-false.field-0 c.in-Ok-true-fill.field-0 c.parts.invariant.line c.in-Ok-false.field-0-test c.in-Ok-false.ensures.ok c.in-Ok-true-fill.field-0-test c.in-Ok-true-fill.ensures.fills;
  same = c.in-Ok-true-fill.ensures.counts ∙ c.parts.invariant.same;
}

pub returns-in-Ok-false-fill-clause-next : goal.returns-in-Ok-false-fill-clause-next
returns-in-Ok-false-fill-clause-next g c =
    exit_end g.S.Source.tells _ _ (g.S.Source.taken c.parts.source) (g.S.Source.left c.parts.source) _ _ c.args.self.now c.parts.self c.take_part.new.self c.fill.new.self c.end_input.new.self c.parts.part c.take_part.new.part c.in-Ok-false.field-0 c.in-Ok-false-fill.field-0 c.end_input.result c.requires c.parts.invariant.line c.in-Ok-false.field-0-test c.in-Ok-false.ensures.ok c.in-Ok-false-fill.field-0-test c.in-Ok-false-fill.ensures.fills c.end_input.ensures
