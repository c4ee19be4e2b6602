use Rattle.std.proofs.Common.{sym, subst}
use Rattle.std.specs.Prelude.{Ok}
use Rattle.table_model.specs.World.{WorldData}
use Rattle.table_world.proofs.Kept.{kept_report, Reportable, reportable_below, catalog_reported}
use Rattle.table_world.proofs.world.World.report.Goals as goal

pub report-requires : goal.report-requires
report-requires g c = reportable_below c.args.count _ (let P : WorldData → Type 0 = Reportable c.args.count in subst P (sym c.self.view_is) c.requires)

pub invariant_of-self : goal.invariant_of-self
invariant_of-self g c = (kept_report c.args.count _ _ (Ok c.report.result) c.self.invariant.0 (let P : WorldData → Type 0 = Reportable c.args.count in subst P (sym c.self.view_is) c.requires) (catalog_reported c.self.inside.catalog c.report.new.self _ _ _ _ c.args.count c.report.result c.report.ensures.value c.report.ensures.after), c.self.invariant.1)

pub returns-clause-consistent : goal.returns-clause-consistent
returns-clause-consistent g c = kept_report c.args.count _ _ (Ok c.report.result) c.self.invariant.0 (let P : WorldData → Type 0 = Reportable c.args.count in subst P (sym c.self.view_is) c.requires) (catalog_reported c.self.inside.catalog c.report.new.self _ _ _ _ c.args.count c.report.result c.report.ensures.value c.report.ensures.after)
