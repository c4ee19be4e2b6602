use Rattle.std.proofs.Common.{◌≤◌}
use Rattle.std.specs.Prelude.{IfSome}
use Rattle.table_model.specs.Knowledge.{IsValid}
use Rattle.table_session.proofs.Turns.{before, Talking}
use Rattle.table_session.proofs.talking.session.Given as goal

abbrev pub invariant-lines : goal.invariant-lines
invariant-lines g l = record {
  talking : Talking g.T.Steps.tells g.C.Clock.fixed g.I.Source.tells g.O.Sink.tells
      (before (g.T.Steps.known l.fn.caller) (g.C.Clock.reading l.fn.clock) (g.U.Ids.differ l.fn.ids) (g.U.Ids.given l.fn.ids) (g.I.Source.taken l.fn.source) (g.I.Source.left l.fn.source) (g.O.Sink.written l.fn.sink))
      (g.T.Steps.known l.caller) (g.C.Clock.reading l.clock) (g.U.Ids.differ l.ids) (g.U.Ids.given l.ids) (g.I.Source.taken l.source) (g.I.Source.left l.source) (g.O.Sink.written l.sink) l.lines;
  roomy : IfSome (g.T.Steps.known l.caller).terms (λ t. t.limits.versions ≤ t.limits.unpublished);
  valid : IsValid (g.T.Steps.known l.caller);
  after : g.T.Steps.after l.fn.caller l.caller;
  read : g.I.Source.faults l.fn.source ≤ g.I.Source.faults l.source;
  wrote : g.O.Sink.faults l.fn.sink ≤ g.O.Sink.faults l.sink;
}
