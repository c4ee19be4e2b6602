use Rattle.std.proofs.Common.{◌≡◌, ◌+◌, [], length, IsTrue}
use Rattle.table_model.specs.Knowledge.{Knowledge, IsGrown, IsValid}
use Rattle.writer_txn.specs.Named.{NamesApart}
use Rattle.writer_txn.specs.Trying.{IsFrontOf, IsUnderway, GoesOn}
use Rattle.writer_txn.proofs.writes.attempts.Given as goal

abbrev pub invariant-loop-tried : goal.invariant-loop-tried
invariant-loop-tried g l = record {
  front : IsFrontOf g.T.Steps.tells l.what l.front (g.T.Steps.known l.caller).seen;
  newest : l.front.latest + 1 ≡ length (g.T.Steps.known l.caller).seen;
  base : l.front.base ≡ l.fn.front.base;
  underway : (k : Knowledge) → IsUnderway l.fn.front.base 0 k (g.T.Steps.known l.fn.caller) → GoesOn l.fn.front.base l.tried l.front k (g.T.Steps.known l.caller);
  faults : (g.T.Steps.known l.caller).faults ≡ (g.T.Steps.known l.fn.caller).faults;
  steady : IsTrue g.C.Clock.fixed → g.C.Clock.reading l.clock ≡ g.C.Clock.reading l.fn.clock;
  names : IsTrue (g.U.Ids.differ l.ids) → NamesApart (g.U.Ids.differ l.fn.ids) (g.U.Ids.given l.fn.ids) (g.U.Ids.given l.ids) [] (g.T.Steps.known l.fn.caller) (g.T.Steps.known l.caller);
  grows : IsGrown (g.T.Steps.known l.fn.caller) (g.T.Steps.known l.caller);
  valid : IsValid (g.T.Steps.known l.caller);
  after : g.T.Steps.after l.fn.caller l.caller;
}
