use Rattle.std.proofs.Common.{arith}
use Rattle.table_world.proofs.Kept.{kept_stage, not_recorded}
use Rattle.table_world.proofs.world.World.stage.Goals as goal

pub invariant_of-self : goal.invariant_of-self
invariant_of-self g c = (kept_stage c.args.version c.args.id c.args.bytes.now _ _ _ c.self.invariant.0 c.ranges.version.fits c.ranges.id.fits (c.stage_file.ensures.turn c.self.inside.catalog _ c.self.invariant.1 (not_recorded _ _ c.if-is_recorded.false c.is_recorded.ensures.1)), (let a = c.self.invariant.1 in let b = c.stage_file.ensures.count in omega (arith, a, b)))

pub returns-clause-consistent : goal.returns-clause-consistent
returns-clause-consistent g c = kept_stage c.args.version c.args.id c.args.bytes.now _ _ _ c.self.invariant.0 c.ranges.version.fits c.ranges.id.fits (c.stage_file.ensures.turn c.self.inside.catalog _ c.self.invariant.1 (not_recorded _ _ c.if-is_recorded.false c.is_recorded.ensures.1))
