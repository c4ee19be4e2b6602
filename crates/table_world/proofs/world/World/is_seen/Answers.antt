use Rattle.std.proofs.Common.{◌≡◌, sym, subst, IsTrue}
use Rattle.std.specs.Prelude.{take}
use Rattle.log_names.specs.declared.LogName.{LogName}
use Rattle.table_model.specs.World.{WorldData, log_of}
use Rattle.table_world.specs.Worlds.{IsRecordedUnder}
use Rattle.table_model.specs.Noting.{is_seen_name}
use Rattle.table_world.proofs.TurnNotes.{seen_test}
use Rattle.table_world.proofs.world.World.is_seen.Goals as goal

pub returns-then-version-seen : goal.returns-then-version-seen
returns-then-version-seen g c =
    let There : WorldData → Type 0 = λ w. IsTrue c.is_recorded.result → IsRecordedUnder w.records c.in-Staged.version c.in-Staged.id in
    let Back : WorldData → Type 0 = λ w. IsRecordedUnder w.records c.in-Staged.version c.in-Staged.id → IsTrue c.is_recorded.result in
    let Q : LogName → Type 0 = λ n. c.is_recorded.result ≡ is_seen_name n (take c.args.seen (log_of c.args.self.now)) in
    subst Q (sym c.in-Staged.is)
    (seen_test c.args.self.now c.args.seen c.in-Staged.version c.in-Staged.id c.is_recorded.result c.requires c.if-version-seen.true
    (subst There c.self.view_is c.is_recorded.ensures.0) (subst Back c.self.view_is c.is_recorded.ensures.1))
