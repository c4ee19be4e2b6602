use Rattle.std.proofs.Common.{◌≡◌, ◌≤◌, ◌-◌, ◌*◌}
use Rattle.table_model.specs.Knowledge.{IsGrown, IsValid}
use Rattle.snapshot_load.specs.Reading.{OnlyReads}
use Rattle.snapshot_load.specs.Texts.{IsReplayOf}
use Rattle.snapshot_load.proofs.loads.replay.Given as goal

abbrev pub invariant-loop-version : goal.invariant-loop-version
invariant-loop-version g l = record {
  from : l.from ≤ l.version;
  reads : OnlyReads (2 * (l.version - l.from)) (g.T.Steps.known l.fn.caller) (g.T.Steps.known l.caller);
  grows : IsGrown (g.T.Steps.known l.fn.caller) (g.T.Steps.known l.caller);
  valid : IsValid (g.T.Steps.known l.caller);
  after : g.T.Steps.after l.fn.caller l.caller;
  faults : (g.T.Steps.known l.caller).faults ≡ (g.T.Steps.known l.fn.caller).faults;
  state : IsReplayOf g.T.Steps.tells (g.T.Steps.known l.caller).seen l.version l.state;
}
