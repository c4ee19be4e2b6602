use Rattle.std.proofs.Common.{take, IsTrue}
use Rattle.reconcile.specs.Standing.{StandsFor}
use Rattle.table_model.specs.Log.{history}
use Rattle.table_model.specs.World.{log_of}
use Rattle.table_meddler.specs.Others.{IsRead}
use Rattle.table_meddler.proofs.reading.log_state.Given as goal

abbrev pub invariant-loop-version : goal.invariant-loop-version
invariant-loop-version g l = record {
  read : IsRead l.fn.world l.world;
  state : IsTrue l.fn.world.tells → StandsFor l.state (history (take l.version (log_of l.fn.world)));
}
