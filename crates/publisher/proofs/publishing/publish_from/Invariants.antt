use Rattle.std.proofs.Common.{◌≡◌, ◌≤◌, ◌-◌, ◌*◌, length}
use Rattle.table_model.specs.Knowledge.{IsGrown, IsValid}
use Rattle.table_model.specs.Turns.{TellsTurn}
use Rattle.publisher.specs.Publishing.{OnlyCopies, KeepsBelow}
use Rattle.publisher.specs.Worlds.{PublishesUpTo}
use Rattle.publisher.proofs.publishing.publish_from.Given as goal

abbrev pub invariant-loop-version : goal.invariant-loop-version
invariant-loop-version g l = record {
  turns : OnlyCopies (2 * (l.version - l.fn.commits.reported)) (g.T.Steps.known l.fn.caller) (g.T.Steps.known l.caller);
  kept : KeepsBelow (length (g.T.Steps.known l.fn.caller).seen) (g.T.Steps.known l.fn.caller) (g.T.Steps.known l.caller);
  grows : IsGrown (g.T.Steps.known l.fn.caller) (g.T.Steps.known l.caller);
  valid : IsValid (g.T.Steps.known l.caller);
  after : g.T.Steps.after l.fn.caller l.caller;
  faults : (g.T.Steps.known l.caller).faults ≡ (g.T.Steps.known l.fn.caller).faults;
  published : l.version ≤ (g.T.Steps.known l.caller).published;
  world : TellsTurn (PublishesUpTo l.version) (g.T.Steps.world l.fn.caller) (g.T.Steps.world l.caller);
}
