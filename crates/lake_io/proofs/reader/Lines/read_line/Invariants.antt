use Rattle.std.proofs.Common.{◌≡◌, ◌-◌}
use Rattle.lake_io.specs.Reading.{input_limit}
use Rattle.lake_io.specs.Parts.{InLine}
use Rattle.lake_io.proofs.reader.Lines.read_line.Given as goal

abbrev pub invariant-parts : goal.invariant-parts
invariant-parts g l = record {
  line : InLine g.S.Source.tells (g.S.Source.taken l.fn.source) (g.S.Source.left l.fn.source) l.fn.self (g.S.Source.taken l.source) (g.S.Source.left l.source) l.self l.part;
  same : g.S.Source.faults l.source ≡ g.S.Source.faults l.fn.source;
}

abbrev pub decreases-parts : goal.decreases-parts
decreases-parts g l = input_limit - l.self.read
