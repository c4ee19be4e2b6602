use Rattle.std.proofs.Common.{sym, subst, arith}
use Rattle.table_model.specs.World.{WorldData}
use Rattle.table_world.proofs.Kept.{kept_publish, Publishable}
use Rattle.table_world.proofs.world.World.publish.Goals as goal

pub invariant_of-self : goal.invariant_of-self
invariant_of-self g c = (kept_publish c.args.version c.args.bytes.now _ _ _ c.self.invariant.0 c.ranges.version.fits (let P : WorldData → Type 0 = Publishable c.args.version c.args.bytes.now in subst P (sym c.self.view_is) c.requires) (c.publish_file.ensures.turn c.self.inside.catalog _ c.self.invariant.1), (let a = c.self.invariant.1 in let b = c.publish_file.ensures.count in omega (arith, a, b)))

pub returns-clause-consistent : goal.returns-clause-consistent
returns-clause-consistent g c = kept_publish c.args.version c.args.bytes.now _ _ _ c.self.invariant.0 c.ranges.version.fits (let P : WorldData → Type 0 = Publishable c.args.version c.args.bytes.now in subst P (sym c.self.view_is) c.requires) (c.publish_file.ensures.turn c.self.inside.catalog _ c.self.invariant.1)
