-- The answer stands on its side of the time, and at least half of the versions that were left are decided.
use Rattle.std.proofs.Common.{◌^◌, ◌<◌, arith, rules}
use Rattle.std.proofs.Math.Facts.{to_z-of_z}
use Rattle.commit_timestamps.proofs.Narrowing.{answer_before, answer_after, fewer_above, fewer_below}
use Rattle.commit_timestamps.proofs.halving.Halving.answer.Goals as goal

pub returns-then-time-self-clause-agrees : goal.returns-then-time-self-clause-agrees
returns-then-time-self-clause-agrees c =
    answer_before c.self.inside _ c.self.view_is c.in-Some.version c.in-Some.ensures.asks _ _ (to_z-of_z c.ranges.time)

pub returns-then-time-self-clause-fewer : goal.returns-then-time-self-clause-fewer
returns-then-time-self-clause-fewer c =
    let small : c.self.inside.len < 2 ^ 64 = search rules in
    rw (← c.self.view_is) (fewer_above _ _ c.in-Some.version (omega (arith, c.self.invariant.within)) (rw (← c.self.view_is) at c.in-Some.ensures.asks))

pub returns-else-time-self-clause-agrees : goal.returns-else-time-self-clause-agrees
returns-else-time-self-clause-agrees c =
    answer_after c.self.inside _ c.self.view_is c.in-Some.version c.in-Some.ensures.asks _ _ (to_z-of_z c.ranges.time)

pub returns-else-time-self-clause-fewer : goal.returns-else-time-self-clause-fewer
returns-else-time-self-clause-fewer c =
    let small : c.self.inside.len < 2 ^ 64 = search rules in
    rw (← c.self.view_is) (fewer_below _ _ c.in-Some.version (omega (arith, c.self.invariant.within)) (rw (← c.self.view_is) at c.in-Some.ensures.asks))
