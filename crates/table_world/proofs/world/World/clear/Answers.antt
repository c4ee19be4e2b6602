use Rattle.std.proofs.Common.{sym, subst, arith}
use Rattle.table_model.specs.World.{WorldData}
use Rattle.table_world.proofs.Kept.{kept_clear, Clearable}
use Rattle.table_world.proofs.world.World.clear.Goals as goal

pub invariant_of-self : goal.invariant_of-self
invariant_of-self g c = (kept_clear c.args.version c.args.id _ _ _ c.self.invariant.0 c.ranges.version.fits c.ranges.id.fits (let P : WorldData → Type 0 = Clearable c.args.version in subst P (sym c.self.view_is) c.requires) (c.clear_file.ensures.turn c.self.inside.catalog _ c.self.invariant.1), (let a = c.self.invariant.1 in let b = c.clear_file.ensures.count in omega (arith, a, b)))

pub returns-clause-consistent : goal.returns-clause-consistent
returns-clause-consistent g c = kept_clear c.args.version c.args.id _ _ _ c.self.invariant.0 c.ranges.version.fits c.ranges.id.fits (let P : WorldData → Type 0 = Clearable c.args.version in subst P (sym c.self.view_is) c.requires) (c.clear_file.ensures.turn c.self.inside.catalog _ c.self.invariant.1)
