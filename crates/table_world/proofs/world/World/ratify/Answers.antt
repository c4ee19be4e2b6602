use Rattle.std.proofs.Common.{sym, subst}
use Rattle.std.specs.Prelude.{Ok}
use mir.Syntax.{w64}
use Rattle.std.proofs.lemmas.Int.{to_z-of_z}
use Rattle.table_model.specs.World.{WorldData}
use Rattle.table_world.proofs.Kept.{kept_ratify, Ratifiable, ratifiable_below, catalog_ratified, below_records}
use Rattle.table_world.proofs.world.World.ratify.Goals as goal

pub ratify-requires-clause-version : goal.ratify-requires-clause-version
ratify-requires-clause-version g c =
    below_records c.reserve.new.self c.self.inside.catalog c.args.version 0 c.reserve.ensures.same (ratifiable_below c.args.version c.args.id c.args.time _ (let P : WorldData → Type 0 = Ratifiable c.args.version c.args.id c.args.time in subst P (sym c.self.view_is) c.requires))

pub invariant_of-self-2 : goal.invariant_of-self-2
invariant_of-self-2 g c = (kept_ratify c.args.version c.args.id c.args.time _ _ (Ok c.ratify.result) c.self.invariant.0 (let P : WorldData → Type 0 = Ratifiable c.args.version c.args.id c.args.time in subst P (sym c.self.view_is) c.requires) (catalog_ratified c.self.inside.catalog c.reserve.new.self c.ratify.new.self _ _ _ _ c.args.version c.args.id c.args.time c.ratify.result c.reserve.ensures.same c.ratify.ensures.answer (rw (to_z-of_z w64 c.args.time c.ranges.time) at c.ratify.ensures.after)), c.self.invariant.1)

pub returns-clause-consistent : goal.returns-clause-consistent
returns-clause-consistent g c = kept_ratify c.args.version c.args.id c.args.time _ _ (Ok c.ratify.result) c.self.invariant.0 (let P : WorldData → Type 0 = Ratifiable c.args.version c.args.id c.args.time in subst P (sym c.self.view_is) c.requires) (catalog_ratified c.self.inside.catalog c.reserve.new.self c.ratify.new.self _ _ _ _ c.args.version c.args.id c.args.time c.ratify.result c.reserve.ensures.same c.ratify.ensures.answer (rw (to_z-of_z w64 c.args.time c.ranges.time) at c.ratify.ensures.after))
