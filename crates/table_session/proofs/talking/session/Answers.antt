use Rattle.std.proofs.Common.{arith, subst, sym, Option, ◌≤◌}
use Rattle.std.specs.Prelude.{IfSome}
use Rattle.table_model.specs.Knowledge.{Terms}
use Rattle.table_session.proofs.Turns.{before, talking_start}
use Rattle.table_session.proofs.Ends.{ends_between}
use Rattle.table_session.proofs.Loop.{known_grows, turn_ended, turn_passed, turn_said, turn_short, grows_now, grows_after, no_fault_of_sink, unsaid_caused}
use Rattle.table_session.proofs.talking.session.Goals as goal

pub returns-in-Err-clause-session : goal.returns-in-Err-clause-session
returns-in-Err-clause-session g c = ends_between _ _ _ _ _ _ _ _ _ _ _ _ _ (talking_start _ _ _ _ (before _ _ _ _ _ _ _))

pub lines-init : goal.lines-init
lines-init g c = record {
  talking = rw c.in-Ok.ensures (talking_start _ _ _ _ (before _ _ _ _ _ _ _));
  roomy = c.requires;
  valid = c.limits.ensures.valid;
  after = g.met.T.Steps.after_same _;
  read = omega arith;
  wrote = omega arith;
}

pub returns-in-Err-hear-clause-session : goal.returns-in-Err-hear-clause-session
returns-in-Err-hear-clause-session g c = turn_ended _ _ _ _ _ _ _ _ _ _ _ _ _ c.lines.invariant.talking _ _ c.hear.new.lines c.in-Err-hear.end c.in-Err-hear.ensures.heard

pub returns-in-Err-hear-clause-write_cause : goal.returns-in-Err-hear-clause-write_cause
returns-in-Err-hear-clause-write_cause g c =
    no_fault_of_sink _ _ _ _ _ _ _ c.in-Err-hear.end _ c.hear.new.lines _ _ c.lines.invariant.talking.heard c.in-Err-hear.ensures.heard c.lines.invariant.wrote

pub returns-in-Err-hear-clause-grows : goal.returns-in-Err-hear-clause-grows
returns-in-Err-hear-clause-grows g c = known_grows _ _ _ _ _ _ _ _ _ _ _ _ _ c.lines.invariant.talking

pub lines-preserved-then-not-gets_reply : goal.lines-preserved-then-not-gets_reply
lines-preserved-then-not-gets_reply g c = record {
  talking = turn_passed _ _ _ _ _ _ _ _ _ _ _ _ _ c.lines.invariant.talking _ _ _ c.in-Ok-hear.asked c.gets_reply.result c.in-Ok-hear.ensures.heard c.gets_reply.ensures c.if-not-gets_reply.true;
  roomy = c.lines.invariant.roomy;
  valid = c.lines.invariant.valid;
  after = c.lines.invariant.after;
  read = omega (arith, c.lines.invariant.read, c.in-Ok-hear.ensures.cause.later);
  wrote = c.lines.invariant.wrote;
}

pub returns-in-Err-say-clause-session : goal.returns-in-Err-say-clause-session
returns-in-Err-say-clause-session g c =
    rw c.end.ensures (turn_short _ _ _ _ _ _ _ _ _ _ _ _ _ c.lines.invariant.talking _ _ _ c.in-Ok-hear.asked c.gets_reply.result c.in-Ok-hear.ensures.heard c.gets_reply.ensures c.if-not-gets_reply.false
    c.answer-reply.result _ _ _ c.answer-reply.ensures.right c.answer-reply.ensures.steady _ _ c.answer-reply.ensures.names _ c.in-Err-say.unsaid c.in-Err-say.ensures.said)

pub returns-in-Err-say-clause-write_cause : goal.returns-in-Err-say-clause-write_cause
returns-in-Err-say-clause-write_cause g c = unsaid_caused c.in-Err-say.unsaid _ _ _ _ c.end.ensures c.lines.invariant.wrote c.in-Err-say.ensures.cause

pub returns-in-Err-say-clause-grows : goal.returns-in-Err-say-clause-grows
returns-in-Err-say-clause-grows g c =
    grows_after _ _ _ _ _ _ _ _ _ _ _ _ _ c.lines.invariant.talking _ _ _ c.in-Ok-hear.asked c.gets_reply.result c.in-Ok-hear.ensures.heard c.gets_reply.ensures c.if-not-gets_reply.false
    c.answer-reply.result _ _ _ c.answer-reply.ensures.right c.answer-reply.ensures.steady _ _ c.answer-reply.ensures.names

pub lines-preserved : goal.lines-preserved
lines-preserved g c = record {
  talking = turn_said _ _ _ _ _ _ _ _ _ _ _ _ _ c.lines.invariant.talking _ _ _ c.in-Ok-hear.asked c.gets_reply.result c.in-Ok-hear.ensures.heard c.gets_reply.ensures c.if-not-gets_reply.false
      c.answer-reply.result _ _ _ c.answer-reply.ensures.right c.answer-reply.ensures.steady _ _ c.answer-reply.ensures.names _ c.in-Ok-say.ensures.said;
  roomy =
      let grown = grows_now _ _ _ _ _ _ _ _ _ _ _ _ _ c.lines.invariant.talking _ _ _ c.in-Ok-hear.asked c.gets_reply.result c.in-Ok-hear.ensures.heard c.gets_reply.ensures c.if-not-gets_reply.false
      c.answer-reply.result _ _ _ c.answer-reply.ensures.right c.answer-reply.ensures.steady _ _ c.answer-reply.ensures.names in
      let P : Option Terms → Type 0 = λ o. IfSome o (λ t. t.limits.versions ≤ t.limits.unpublished) in
      subst P (sym grown.terms) c.lines.invariant.roomy;
  valid = c.answer-reply.ensures.valid c.lines.invariant.valid;
  after = g.met.T.Steps.after_both _ _ _ c.lines.invariant.after c.answer-reply.ensures.after;
  read = omega (arith, c.lines.invariant.read, c.in-Ok-hear.ensures.cause.later);
  wrote = omega (arith, c.lines.invariant.wrote, c.in-Ok-say.ensures.cause.later);
}

pub returns-clause-session : goal.returns-clause-session
returns-clause-session g c = ends_between _ _ _ _ _ _ _ _ _ _ _ _ _ c.lines.invariant.talking

pub returns-clause-grows : goal.returns-clause-grows
returns-clause-grows g c = known_grows _ _ _ _ _ _ _ _ _ _ _ _ _ c.lines.invariant.talking
