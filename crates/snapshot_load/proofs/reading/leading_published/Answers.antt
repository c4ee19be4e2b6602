use Rattle.std.proofs.Common.{arith}
use Rattle.snapshot_load.proofs.Listing.{shown_more}
use Rattle.snapshot_load.proofs.reading.leading_published.Goals as goal
use Rattle.snapshot_load.proofs.reading.leading_published.Goals.{then-is_published, else-is_published}

pub loop-listed-preserved : goal.loop-listed-preserved
loop-listed-preserved c =
    elim c.if-is_published.branch [
      | then-is_published w ↦
          rw w.count-is record {
            few = omega arith;
            shown = shown_more c.args.names.now c.loop-listed.listed-index c.loop-listed.count _ c.loop-listed-test.true (c.is_published.ensures w.if-is_published.true) c.loop-listed.invariant.shown;
          }
      | else-is_published w ↦ rw w.count-is record { few = omega arith; shown = c.loop-listed.invariant.shown }
    ]
