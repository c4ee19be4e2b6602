use Rattle.std.proofs.Common.{◌≡◌, ◌+◌, ◌*◌, take, drop, IsTrue, vec_len}
use Rattle.std.specs.Prelude.{map}
use Rattle.table_model.specs.Log.{history}
use Rattle.table_model.specs.Knowledge.{IsGrown, IsValid}
use Rattle.snapshot_load.specs.Reading.{OnlyReads}
use Rattle.snapshot_load.specs.Texts.{AreActionsRead}
use Rattle.snapshot_load.proofs.above.actions_above.Given as goal

abbrev pub invariant-loop-version : goal.invariant-loop-version
invariant-loop-version g l = record {
  reads : OnlyReads (2 * vec_len l.winners) (g.T.Steps.known l.fn.caller) (g.T.Steps.known l.caller);
  grows : IsGrown (g.T.Steps.known l.fn.caller) (g.T.Steps.known l.caller);
  valid : IsValid (g.T.Steps.known l.caller);
  after : g.T.Steps.after l.fn.caller l.caller;
  faults : (g.T.Steps.known l.caller).faults ≡ (g.T.Steps.known l.fn.caller).faults;
  count : l.after + 1 + vec_len l.winners ≡ l.version;
  actions : IsTrue g.T.Steps.tells → map (λ a. a.items) l.winners.items ≡ history (take (vec_len l.winners) (drop (l.after + 1) (g.T.Steps.known l.caller).seen));
  read : AreActionsRead g.T.Steps.tells (g.T.Steps.known l.caller).seen (l.after + 1) (vec_len l.winners) (map (λ a. a.items) l.winners.items);
}
