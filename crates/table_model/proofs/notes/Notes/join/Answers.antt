use Rattle.std.proofs.Common.{ap}
use Rattle.table_model.specs.Noted.{noted, noted_of}
use Rattle.table_model.proofs.Sharing.{both_holds}
use Rattle.table_model.proofs.notes.Notes.join.Goals as goal

pub returns-clause-holds : goal.returns-clause-holds
returns-clause-holds c w h g =
    both_holds w c.args.self.now.seen c.args.other.now.seen c.max-self.result (noted c.args.self.now) (noted c.args.other.now) _ _ c.max-self.ensures
    (ap noted_of c.of.ensures) (ap noted_of c.of-2.ensures) h g
