use Rattle.std.proofs.Common.{◌≡◌, ◌≤◌, take}
use Rattle.table_model.specs.Knowledge.{IsGrown, IsValid}
use Rattle.table_model.specs.Turns.{TellsTurn}
use Rattle.publisher.specs.Publishing.{OnlyClears, ClearsNames}
use Rattle.publisher.specs.Worlds.{Clears, AreCleared}
use Rattle.publisher.proofs.clearing.clear_listed.Given as goal

abbrev pub invariant-loop-listed : goal.invariant-loop-listed
invariant-loop-listed g l = record {
  small : l.cleared ≤ l.listed-index;
  turns : OnlyClears (g.T.Steps.known l.fn.caller) (g.T.Steps.known l.caller);
  grows : IsGrown (g.T.Steps.known l.fn.caller) (g.T.Steps.known l.caller);
  valid : IsValid (g.T.Steps.known l.caller);
  after : g.T.Steps.after l.fn.caller l.caller;
  faults : (g.T.Steps.known l.caller).faults ≡ (g.T.Steps.known l.fn.caller).faults;
  cleared : ClearsNames l.reported (take l.listed-index l.names) l.cleared (g.T.Steps.known l.fn.caller) (g.T.Steps.known l.caller);
  world : TellsTurn (Clears l.reported) (g.T.Steps.world l.fn.caller) (g.T.Steps.world l.caller);
  gone : AreCleared l.reported l.listed-index l.names (g.T.Steps.world l.caller);
}
