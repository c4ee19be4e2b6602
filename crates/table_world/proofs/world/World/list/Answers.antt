use Rattle.std.proofs.Common.{arith}
use Rattle.table_world.proofs.Kept.{kept_list}
use Rattle.table_world.proofs.world.World.list.Goals as goal

pub invariant_of-self : goal.invariant_of-self
invariant_of-self g c = (kept_list _ _ _ c.self.invariant.0 (c.list_names.ensures.turn c.self.inside.catalog _ c.self.invariant.1), (let a = c.self.invariant.1 in let b = c.list_names.ensures.count in omega (arith, a, b)))

pub returns-clause-consistent : goal.returns-clause-consistent
returns-clause-consistent g c = kept_list _ _ _ c.self.invariant.0 (c.list_names.ensures.turn c.self.inside.catalog _ c.self.invariant.1)
