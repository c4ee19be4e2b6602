use Rattle.std.proofs.Common.{◌∙◌, ap, sym}
use Rattle.std.specs.Option.{option_copied}
use Rattle.std.specs.Slice.Iter.{iter_rest}
use Rattle.reconcile.specs.Replay.{last_said}
use Rattle.plain_replay.proofs.Searching.{passes, commit_found, commit_passed, is_some-copied}
use Rattle.plain_replay.proofs.plain.last.Goals as goal

pub returns-then-is_some : goal.returns-then-is_some
returns-then-is_some c =
    commit_found c.args.asked c.args.commits.now (iter_rest c.loop-commit.commit-iterator.iter) (iter_rest c.next.new.self.iter) c.in-Some.commit.now (option_copied c.last_in-found.result)
    c.loop-commit.invariant c.in-Some.ensures.steps (c.last_in-found.ensures ∙ ap (last_said (passes c.args.asked)) c.as_slice.ensures.value)
    (is_some-copied c.last_in-found.result ∙ sym c.is_some.ensures ∙ c.if-is_some.true)

pub loop-commit-preserved : goal.loop-commit-preserved
loop-commit-preserved c =
    commit_passed c.args.asked c.args.commits.now (iter_rest c.loop-commit.commit-iterator.iter) (iter_rest c.next.new.self.iter) c.in-Some.commit.now (option_copied c.last_in-found.result)
    c.loop-commit.invariant c.in-Some.ensures.steps (c.last_in-found.ensures ∙ ap (last_said (passes c.args.asked)) c.as_slice.ensures.value)
    (is_some-copied c.last_in-found.result ∙ sym c.is_some.ensures ∙ c.if-is_some.false)
