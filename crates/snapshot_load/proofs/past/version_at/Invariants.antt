use Rattle.std.proofs.Common.{◌≡◌, ◌≤◌, ◌+◌, ◌-◌, ◌*◌, IsTrue}
use Rattle.commit_timestamps.specs.Digits.{binary_digits}
use Rattle.commit_timestamps.specs.Search.{Agrees}
use Rattle.table_model.specs.Knowledge.{IsGrown, IsValid}
use Rattle.snapshot_load.specs.Reading.{OnlyReads}
use Rattle.snapshot_load.specs.Texts.{times_of}
use Rattle.snapshot_load.proofs.past.version_at.Given as goal

abbrev pub invariant-loop-version : goal.invariant-loop-version
invariant-loop-version g l = record {
  left : l.search.left ≤ binary_digits l.commits.count;
  versions : l.search.versions ≡ l.commits.count;
  time : l.search.time ≡ l.time;
  reads : OnlyReads (2 * (binary_digits l.commits.count - l.search.left)) (g.T.Steps.known l.fn.caller) (g.T.Steps.known l.caller);
  grows : IsGrown (g.T.Steps.known l.fn.caller) (g.T.Steps.known l.caller);
  valid : IsValid (g.T.Steps.known l.caller);
  after : g.T.Steps.after l.fn.caller l.caller;
  faults : (g.T.Steps.known l.caller).faults ≡ (g.T.Steps.known l.fn.caller).faults;
  agrees : IsTrue g.T.Steps.tells → Agrees l.search (times_of (g.T.Steps.known l.caller).seen);
}

abbrev pub decreases-loop-version : goal.decreases-loop-version
decreases-loop-version g l = l.search.left
