use Rattle.std.proofs.Common.{◌∙◌, sym}
use Rattle.std.specs.Slice.Iter.{iter_rest}
use Rattle.plain_replay.proofs.Searching.{action_found, action_passed}
use Rattle.plain_replay.proofs.plain.last_in.Goals as goal

pub returns-then-is_answer : goal.returns-then-is_answer
returns-then-is_answer c =
    action_found c.args.asked c.args.actions.now (iter_rest c.loop-action.action-iterator.iter) (iter_rest c.next.new.self.iter) c.in-Some.action.now
    c.loop-action.invariant c.in-Some.ensures.steps (sym c.is_answer.ensures ∙ c.if-is_answer.true)

pub loop-action-preserved : goal.loop-action-preserved
loop-action-preserved c =
    action_passed c.args.asked c.args.actions.now (iter_rest c.loop-action.action-iterator.iter) (iter_rest c.next.new.self.iter) c.in-Some.action.now
    c.loop-action.invariant c.in-Some.ensures.steps (sym c.is_answer.ensures ∙ c.if-is_answer.false)
